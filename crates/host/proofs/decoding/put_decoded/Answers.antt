use mathlib.Core.Path.{refl, ◌∙◌}
use Rattle.layout.proofs.Stored.{nine_stored}
use Rattle.host.specs.MirrorCodes.{put_of}
use Rattle.host.proofs.Told.{fill, headed_told, refused_told}
use Rattle.host.proofs.decoding.put_decoded.Goals as goal

pub returns-in-Ok : goal.returns-in-Ok
unfolding put_of
returns-in-Ok c = let s = c in rw c.in-Ok.is (fill (headed_told _ _ c.told.ensures.number c.told.ensures.answer) (nine_stored c.row_of.result _ _ s.args.fields.now _ s.requires.0 c.put_row.ensures ∙ rw (c.row_of.ensures, c.states.ensures)))

pub returns-in-Err : goal.returns-in-Err
unfolding put_of
returns-in-Err c = rw c.in-Err.is (fill (refused_told _ _ c.told-in-Err.ensures.number c.told-in-Err.ensures.answer _ c.from.ensures) refl)
