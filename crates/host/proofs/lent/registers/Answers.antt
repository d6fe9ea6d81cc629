use borrow.Author.Tests.{lt-ltb, le-ltb}
use Rattle.host.specs.MirrorAnswers.{lent_registers}
use Rattle.host.proofs.lent.registers.Goals as goal

pub returns-then-regs-lt-REGISTERS-clause-value : goal.returns-then-regs-lt-REGISTERS-clause-value
unfolding lent_registers
returns-then-regs-lt-REGISTERS-clause-value c = rw (lt-ltb _ _ c.if-regs-lt-REGISTERS.true)

pub returns-then-budget-gt1000000-clause-value : goal.returns-then-budget-gt1000000-clause-value
unfolding lent_registers
returns-then-budget-gt1000000-clause-value c = rw (le-ltb _ _ c.if-regs-lt-REGISTERS.false, lt-ltb _ _ c.if-budget-gt1000000.true)

pub returns-then-number_at-gt255-clause-value : goal.returns-then-number_at-gt255-clause-value
unfolding lent_registers
returns-then-number_at-gt255-clause-value c = rw (le-ltb _ _ c.if-regs-lt-REGISTERS.false, le-ltb _ _ c.if-budget-gt1000000.false, ← c.number_at.ensures, lt-ltb _ _ c.if-number_at-gt255.true)

pub returns-clause-value : goal.returns-clause-value
unfolding lent_registers
returns-clause-value c = rw (le-ltb _ _ c.if-regs-lt-REGISTERS.false, le-ltb _ _ c.if-budget-gt1000000.false, ← c.number_at.ensures, le-ltb _ _ c.if-number_at-gt255.false, c.registers_in.ensures)
