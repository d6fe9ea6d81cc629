use Rattle.routine.proofs.goes.Goals as goal

pub returns-in-Nop : goal.returns-in-Nop
returns-in-Nop c = rw c.in-Nop.is

pub returns-in-Stc : goal.returns-in-Stc
returns-in-Stc c = rw c.in-Stc.is

pub returns-in-LdcReg : goal.returns-in-LdcReg
returns-in-LdcReg c = rw c.in-LdcReg.is

pub returns-in-Ccr : goal.returns-in-Ccr
returns-in-Ccr c = rw c.in-Ccr.is

pub returns-in-Alu : goal.returns-in-Alu
returns-in-Alu c = rw c.in-Alu.is

pub returns-in-IncDec : goal.returns-in-IncDec
returns-in-IncDec c = rw c.in-IncDec.is

pub returns-in-AddsSubs : goal.returns-in-AddsSubs
returns-in-AddsSubs c = rw c.in-AddsSubs.is

pub returns-in-Decimal : goal.returns-in-Decimal
returns-in-Decimal c = rw c.in-Decimal.is

pub returns-in-Shift : goal.returns-in-Shift
returns-in-Shift c = rw c.in-Shift.is

pub returns-in-Unary : goal.returns-in-Unary
returns-in-Unary c = rw c.in-Unary.is

pub returns-in-Multiply : goal.returns-in-Multiply
returns-in-Multiply c = rw c.in-Multiply.is

pub returns-in-Divide : goal.returns-in-Divide
returns-in-Divide c = rw c.in-Divide.is

pub returns-in-Takes : goal.returns-in-Takes
returns-in-Takes c = rw c.in-Takes.is

pub returns-in-Gives : goal.returns-in-Gives
returns-in-Gives c = rw c.in-Gives.is

pub returns-in-Move : goal.returns-in-Move
returns-in-Move c = rw c.in-Move.is

pub returns-in-Bcc : goal.returns-in-Bcc
returns-in-Bcc c = rw c.in-Bcc.is

pub returns-in-Jmp : goal.returns-in-Jmp
returns-in-Jmp c = rw c.in-Jmp.is

pub returns-in-Bsr : goal.returns-in-Bsr
returns-in-Bsr c = rw c.in-Bsr.is

pub returns-in-Jsr : goal.returns-in-Jsr
returns-in-Jsr c = rw c.in-Jsr.is

pub returns-in-Rts : goal.returns-in-Rts
returns-in-Rts c = rw c.in-Rts.is
