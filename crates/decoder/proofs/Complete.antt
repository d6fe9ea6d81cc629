-- A code at the start of the bytes is found, whatever follows; and a proper beginning of a code is cut short.
use Rattle.std.specs.Prelude.{Option, Some, Ok, Err}
use Prim.Native.Nat.{ℕ, ◌+◌, ◌*◌, ◌<◌}
use mathlib.Core.Path.{◌≡◌, refl, sym, ap, ap₂, ◌∙◌}
use mathlib.Core.Bool.{true, false}
use mathlib.Core.List.{List, [], ◌∷◌, ◌++◌}
use native.Mathlib.Omega.{arith}
use lib.ListN.{length, length-append}
use borrow.Author.Tests.{le-ltb, lt-ltb, ne_eqb, eq-eqb}
use Rattle.decoder.specs.Names.{Instruction, Rest, Plan, Lacks, Tail, Cut, Unlisted}
use Rattle.codes.specs.Code.{code_of}
use Rattle.codes.specs.Valid.{Valid}
use Rattle.decoder.specs.MirrorDecode.{tail_of_rest, fill_of, with16, with32, with24, by_tail, finish_of, begun_of, two_words, starts_of, prefix_of, prefixed_of, found_of}
use Rattle.decoder.specs.MirrorWords.{pick, plan_of, after_of}
use Rattle.decoder.proofs.Shape.{Ends, all, two, zero_three, four, Shape, plain, long, shape}

-- ---- how the decoder takes a list apart

pub word_first : (a b : ℕ) (t : List ℕ) → found_of (a ∷ b ∷ t) ≡ pick (two_words a) (prefixed_of a b t) (finish_of (plan_of a b) t 2)
word_first a b t = rw (ne_eqb (length (a ∷ b ∷ t)) 0 (omega arith), ne_eqb (length (a ∷ b ∷ t)) 1 (omega arith))

pub word_only : (a b : ℕ) (t : List ℕ) → two_words a ≡ false → found_of (a ∷ b ∷ t) ≡ finish_of (plan_of a b) t 2
word_only a b t n = word_first a b t ∙ ap (λ two. pick two (prefixed_of a b t) (finish_of (plan_of a b) t 2)) n

pub two_words_lem : (a b : ℕ) (t : List ℕ) → two_words a ≡ true → found_of (a ∷ b ∷ t) ≡ prefixed_of a b t
two_words_lem a b t n = word_first a b t ∙ ap (λ two. pick two (prefixed_of a b t) (finish_of (plan_of a b) t 2)) n

pub word_second : (a b c d : ℕ) (t : List ℕ) → prefixed_of a b (c ∷ d ∷ t) ≡ finish_of (after_of a b c d) t 4
word_second a b c d t = rw (ne_eqb (length (c ∷ d ∷ t)) 0 (omega arith), ne_eqb (length (c ∷ d ∷ t)) 1 (omega arith))

-- ---- what the bytes that follow do, by their number

pub sixteen : (q : Rest) (x y : ℕ) (t : List ℕ) (n : ℕ) → with16 q (x ∷ y ∷ t) n ≡ Ok (fill_of q (x * 256 + y), n + 2)
sixteen q x y t n = rw (le-ltb (length (x ∷ y ∷ t)) 2 (omega arith))

pub thirty_two : (q : Rest) (x y z w : ℕ) (t : List ℕ) (n : ℕ)
    → with32 q (x ∷ y ∷ z ∷ w ∷ t) n ≡ Ok (fill_of q (x * 16777216 + y * 65536 + z * 256 + w), n + 4)
thirty_two q x y z w t n = rw (le-ltb (length (x ∷ y ∷ z ∷ w ∷ t)) 4 (omega arith))

pub zero_first : (q : Rest) (x : ℕ) (t : List ℕ) (n : ℕ) → x ≡ 0 → with24 q (x ∷ t) n ≡ with32 q (x ∷ t) n
zero_first q x t n z = rw (ne_eqb (length (x ∷ t)) 0 (omega arith), eq-eqb x 0 z)

pub not_zero_first : (q : Rest) (x : ℕ) (t : List ℕ) (n : ℕ) → (x ≡ 0 → ⊥) → with24 q (x ∷ t) n ≡ Err Unlisted
not_zero_first q x t n z = rw (ne_eqb (length (x ∷ t)) 0 (omega arith), ne_eqb x 0 z)

-- a plan that lacks bytes, by what it lacks
by_tail_lem : {p : Option Plan} (q : Rest) {k : Tail} (s : List ℕ) (n : ℕ) → p ≡ Some (Lacks q) → tail_of_rest q ≡ k → finish_of p s n ≡ by_tail k q s n
by_tail_lem q s n e f = ap (λ p. finish_of p s n) e ∙ ap (λ k. by_tail k q s n) f

-- ---- a code, with anything after it

finished : {p : Option Plan} {i : Instruction} {t : List ℕ} → Ends p i t → (rest : List ℕ) (n : ℕ) → finish_of p (t ++ rest) n ≡ Ok (i, n + length t)
finished {i = i} (all e) rest n = ap (λ p. finish_of p rest n) e ∙ ap (λ n. Ok (i, n)) (omega arith)
finished (two q {x} {y} e k f) rest n = by_tail_lem q (x ∷ y ∷ rest) n e k ∙ sixteen q x y rest n ∙ ap (λ i. Ok (i, n + 2)) f
finished (zero_three q {y} {z} {w} e k f) rest n =
    by_tail_lem q (0 ∷ y ∷ z ∷ w ∷ rest) n e k
    ∙ zero_first q 0 (y ∷ z ∷ w ∷ rest) n refl
    ∙ thirty_two q 0 y z w rest n
    ∙ ap (λ i. Ok (i, n + 4)) f
finished (four q {x} {y} {z} {w} e k f) rest n =
    by_tail_lem q (x ∷ y ∷ z ∷ w ∷ rest) n e k ∙ thirty_two q x y z w rest n ∙ ap (λ i. Ok (i, n + 4)) f

whole_shape : {i : Instruction} {c : List ℕ} → Shape i c → (rest : List ℕ) → found_of (c ++ rest) ≡ Ok (i, length c)
whole_shape {i} (plain {a} {b} {t} n s e) rest = word_only a b (t ++ rest) n ∙ finished e rest 2 ∙ ap (λ n. Ok (i, n)) (omega arith)
whole_shape {i} (long {a} {b} {c} {d} {t} n p s e) rest =
    two_words_lem a b (c ∷ d ∷ (t ++ rest)) n ∙ word_second a b c d (t ++ rest) ∙ finished e rest 4 ∙ ap (λ n. Ok (i, n)) (omega arith)

-- A code that begins the bytes is found.
pub complete : (i : Instruction) → Valid i → (rest : List ℕ) → found_of (code_of i ++ rest) ≡ Ok (i, length (code_of i))
complete i v rest = whole_shape (shape i v) rest

-- ---- a proper beginning of a code

fewer : (s : List ℕ) (x : ℕ) (u : List ℕ) {t : List ℕ} → t ≡ s ++ (x ∷ u) → length s < length t
fewer s x u e = omega (arith, ap length e, length-append s (x ∷ u))

head_of : {a b : ℕ} {s t : List ℕ} → a ∷ s ≡ b ∷ t → a ≡ b
head_of e = cc

cut_16 : (q : Rest) (s : List ℕ) (n : ℕ) → length s < 2 → with16 q s n ≡ Err Cut
cut_16 q s n h = rw (lt-ltb (length s) 2 h)

cut_32 : (q : Rest) (s : List ℕ) (n : ℕ) → length s < 4 → with32 q s n ≡ Err Cut
cut_32 q s n h = rw (lt-ltb (length s) 4 h)

cut_ends : {p : Option Plan} {i : Instruction} {t : List ℕ} → Ends p i t → (s : List ℕ) (x : ℕ) (u : List ℕ) (n : ℕ) → t ≡ s ++ (x ∷ u) → finish_of p s n ≡ Err Cut
cut_ends (all k) s x u n e = absurd (omega (arith, ap length e, length-append s (x ∷ u)))
cut_ends (two q k m f) s x u n e = by_tail_lem q s n k m ∙ cut_16 q s n (fewer s x u e)
cut_ends (zero_three q k m f) [] x u n e = by_tail_lem q [] n k m
cut_ends (zero_three q k m f) (c ∷ s) x u n e =
    by_tail_lem q (c ∷ s) n k m ∙ zero_first q c s n (sym (head_of e)) ∙ cut_32 q (c ∷ s) n (fewer (c ∷ s) x u e)
cut_ends (four q k m f) s x u n e = by_tail_lem q s n k m ∙ cut_32 q s n (fewer s x u e)

tail_of : {a b : ℕ} {s t : List ℕ} → a ∷ s ≡ b ∷ t → s ≡ t
tail_of e = cc

cut_long : {i : Instruction} (a b : ℕ) {c d : ℕ} {t : List ℕ} → prefix_of a b ≡ Cut → begun_of (after_of a b c 0) ≡ Cut → Ends (after_of a b c d) i t
    → (s : List ℕ) (x : ℕ) (u : List ℕ) → c ∷ d ∷ t ≡ s ++ (x ∷ u) → prefixed_of a b s ≡ Err Cut
cut_long a b p k e [] x u g = ap Err p
cut_long a b p k e (c ∷ []) x u g = ap (λ z. Err (begun_of (after_of a b z 0))) (sym (head_of g)) ∙ ap Err k
cut_long a b p k e (c ∷ d ∷ s) x u g =
    word_second a b c d s
    ∙ ap₂ (λ x y. finish_of (after_of a b x y) s 4) (sym (head_of g)) (sym (head_of (tail_of g)))
    ∙ cut_ends e s x u 4 (tail_of (tail_of g))

cut_shape : {i : Instruction} {c : List ℕ} → Shape i c → (s : List ℕ) (x : ℕ) (u : List ℕ) → c ≡ s ++ (x ∷ u) → found_of s ≡ Err Cut
cut_shape (plain n k e) [] x u h = refl
cut_shape (plain n k e) (a ∷ []) x u h = ap (λ z. Err (starts_of z)) (sym (head_of h)) ∙ ap Err k
cut_shape (plain {a} {b} n k e) (c ∷ d ∷ s) x u h =
    word_only c d s (ap two_words (sym (head_of h)) ∙ n)
    ∙ ap₂ (λ x y. finish_of (plan_of x y) s 2) (sym (head_of h)) (sym (head_of (tail_of h)))
    ∙ cut_ends e s x u 2 (tail_of (tail_of h))
cut_shape (long n p k e) [] x u h = refl
cut_shape (long {a} n p k e) (a' ∷ []) x u h = ap (λ z. Err (starts_of z)) (sym (head_of h)) ∙ rw n
cut_shape (long {a} {b} n p k e) (a' ∷ b' ∷ s) x u h =
    two_words_lem a' b' s (ap two_words (sym (head_of h)) ∙ n)
    ∙ ap₂ (λ y z. prefixed_of y z s) (sym (head_of h)) (sym (head_of (tail_of h)))
    ∙ cut_long a b p k e s x u (tail_of (tail_of h))

-- A proper beginning of a code is cut short.
pub cut : (i : Instruction) → Valid i → (s : List ℕ) (x : ℕ) (u : List ℕ) → code_of i ≡ s ++ (x ∷ u) → found_of s ≡ Err Cut
cut i v s x u h = cut_shape (shape i v) s x u h
