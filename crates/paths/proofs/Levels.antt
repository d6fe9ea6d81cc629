-- What hangs on the levels left: a clear place's paths do not, so a table of rows with eight levels left has what each call costs.
-- Assumes nothing.
use Rattle.std.specs.Prelude.{Result}
use Rattle.std.proofs.Common.{◌≡◌, ℕ, zero, suc, ◌+◌, refl, arith}
use Rattle.refusal.specs.declared.Refusal.{Refusal}
use Rattle.paths.specs.declared.Flow.{Flow}
use Rattle.paths.specs.Paths.{Leads, Enters, count_of, Forbidden, stop, back, deep, Open, Path, ends, goes, calls, Meets, here, later, into, Largest, Clear}
use Rattle.paths.proofs.Laws.{clear_open, clear_on, clear_into}

module _ (flow : ℕ → Result Flow Refusal) where
  -- what is forbidden with a level more is forbidden with one less
  less : {d p : ℕ} {r : Refusal} → Forbidden flow (suc d) p r → Forbidden flow d p r
  less (stop e) = stop e
  less (back w h) = back w h

  open_up : {d p : ℕ} → Open flow d p → Open flow (suc d) p
  open_up o r b = o r (less b)

  -- a path is one with a level more; and on a clear place with one less
  pub path_up : {d p n : ℕ} → Path flow d p n → Path flow (suc d) p n
  path_up (ends e) = ends e
  path_up (goes o ne w r) = goes (open_up o) ne w (path_up r)
  path_up (calls e r w o r') = calls e (path_up r) w (open_up o) (path_up r')

  -- a call made with a level left, from what it enters and what follows
  call_down : (d : ℕ) {p q t n m : ℕ} → Clear flow d p → Enters (flow p) t → Leads (flow p) q
      → ((e : ℕ) → d ≡ suc e → Clear flow e t → Path flow e t m) → Path flow d q n → Path flow d p (count_of (flow p) + m + n)
  call_down zero {p} {t = t} c e w a b = absurd (c p (here (deep t e)))
  call_down (suc d) {p} {t = t} c e w a b = calls e (a d refl (clear_into flow c e)) w (clear_open flow c) b

  pub path_down : {x p n : ℕ} → Path flow x p n → (d : ℕ) → x ≡ suc d → Clear flow d p → Path flow d p n
  path_down (ends e) d z c = ends e
  path_down {p = p} (goes o ne w r) d z c = goes (clear_open flow c) ne w (path_down r d z (clear_on flow c w))
  path_down {p = p} (calls {d = y} e r w o r') d z c =
      let i : y ≡ d = omega arith in
      call_down d c e w (λ x j k. path_down r x (let g : y ≡ suc x = omega arith in g) k) (path_down r' d z (clear_on flow c w))

  -- a clear place is clear with a level more
  into_down : (d : ℕ) {p t : ℕ} → Clear flow d p → Enters (flow p) t → ((e : ℕ) → d ≡ suc e → Clear flow e t → ⊥) → ⊥
  into_down zero {p} {t} c e a = c p (here (deep t e))
  into_down (suc d) c e a = a d refl (clear_into flow c e)

  meets_down : {x p f : ℕ} → Meets flow x p f → (d : ℕ) → x ≡ suc d → Clear flow d p → ⊥
  meets_down {x} {p} (here {r = r} b) d z c = c p (here (less (rw z at b)))
  meets_down (later o w m) d z c = meets_down m d z (clear_on flow c w)
  meets_down (into {d = y} o e m) d z c = into_down d c e (λ x j k. meets_down m x (let g : y ≡ suc x = omega arith in g) k)

  pub clear_up : {d p : ℕ} → Clear flow d p → Clear flow (suc d) p
  clear_up {d} c f m = meets_down m d refl c

  -- so the largest total of a clear place is the same with a level more, and with one less
  pub level_free : {d p n : ℕ} → Clear flow d p → Largest flow d p n → Largest flow (suc d) p n
  level_free {d} c l = record { some = path_up l.some; most = λ m r. l.most m (path_down r d refl c) }

  pub level_less : {d p n : ℕ} → Clear flow d p → Largest flow (suc d) p n → Largest flow d p n
  level_less {d} c l = record { some = path_down l.some d refl c; most = λ m r. l.most m (path_up r) }
