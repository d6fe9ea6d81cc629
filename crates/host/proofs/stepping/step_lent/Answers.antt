use Rattle.host.specs.MirrorSteps.{step_lent}
use Rattle.host.proofs.Stepped.{step_summed, step_spares}
use Rattle.host.proofs.stepping.step_lent.Goals as goal

pub returns : goal.returns
unfolding step_lent
returns c = let b = c.board_in-b.ensures in
    let r = c.requires.read in
    let w = c.single-w in
    let k = c.tell_step.ensures in record { did = rw (← b, ← r, ← w.ensures.answer, ← w.ensures.list, ← k); sum = step_summed w.result _ _ w.ensures.few k _ _ (rw (b, r) at w.ensures.sum); spares = step_spares w.result _ _ w.ensures.few k _ _ _ _ (rw (b, r) at w.ensures.answer) (rw b at w.ensures.spares) }
