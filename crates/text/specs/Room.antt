-- A line's 192 places: its text, and zeros behind it. So the text alone tells them all.
use Rattle.std.specs.Prelude.{ℕ, ◌≡◌, ◌-◌, ◌≤◌, List, ◌++◌, length, take, drop, replicate}
use Rattle.std.proofs.Common.{sym, length-take-le, take-append-drop}

pub length_of_text : (n : ℕ) (text : List ℕ) → n ≤ 192 → length text ≡ 192 → length (take n text) ≡ n
length_of_text n text h e = length-take-le n text (rw e h)

pub text_and_room : (n : ℕ) (text : List ℕ) → n ≤ 192 → length text ≡ 192 → drop n text ≡ replicate (192 - n) 0 → take n text ++ replicate (192 - length (take n text)) 0 ≡ text
text_and_room n text h e z = rw (length_of_text n text h e, sym z) (take-append-drop n text)
