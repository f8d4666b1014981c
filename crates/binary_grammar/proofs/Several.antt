-- Several of one kind are read as they say.
use Rattle.std.proofs.Common.{◌≡◌, ℕ, zero, suc, ◌+◌, ◌≤◌, ◌<◌, ◌⊎◌, Bool, true, false, cond, eqb, List, [], ◌∷◌, ◌++◌, length, Option, Some, None, Result, Ok, Err, refl, ap, subst, ◌∙◌, append_assoc, arith, inl, inr}
use Rattle.std.specs.Prelude.{◌==◌}
use Rattle.std.proofs.lemmas.Bool.{eqb-true}
use Rattle.std.proofs.lemmas.List.{nil_from_length, length-append}
use Rattle.binary_grammar.specs.declared.fault.Fault.{Fault}
use Rattle.binary_grammar.specs.declared.fault.Rule.TheVariants as rules
use Rattle.binary_grammar.specs.Format.{Format, Each, ◌>>=◌, yield, byte, and_then, wrong}
use Rattle.binary_grammar.specs.Several.{series, onward, Until, until_at, UntilBreak, until, unless, up_to, AreSteps, StepsBreak, here, later, steps_at, to_end}
use Rattle.binary_grammar.proofs.Laws.{Found, Law, WholeLaw, moved, bind_ok, bind_err, ok_is, refused, some_left, not_empty, more_behind, behind_stays, in_three, bind_law, yield_law, byte_law}

pub series_law : {S X : Type 0} (f : S → Format X) (grow : S → X → S) → ((s : S) → Law (f s)) → (n : ℕ) (s : S) → Law (series f grow n s)
unfolding series
series_law f grow lf zero s = yield_law []
series_law f grow lf (suc n) s =
    bind_law (f s) (λ x. series f grow n (grow s x) >>= (λ xs. yield (x ∷ xs))) (lf s)
    (λ x. bind_law (series f grow n (grow s x)) (λ xs. yield (x ∷ xs)) (series_law f grow lf n (grow s x)) (λ xs. yield_law (x ∷ xs)))

-- ---- up to a sign

onward_err : {X : Type 0} (o : Option X) (rest : List ℕ) (more : Result (List X × List ℕ) Fault) (e : Fault) → onward o rest more ≡ Err e → (x : X) × (o ≡ Some x) × (more ≡ Err e)
onward_err None rest more e h = absurd cc
onward_err (Some x) rest more e h =
    elim (bind_err more (λ xs. Ok (x ∷ xs.0, xs.1)) e h) [
      | inl k ↦ (x, refl, k)
      | inr q ↦ let k = q.2 in absurd cc
    ]

module _ {X : Type 0} (f : Format (Option X)) (lf : Law f) (some : (bytes : List ℕ) (o : Option X) → f.form bytes o → 1 ≤ length bytes) where
  abbrev F : List ℕ → X → Type 0
  F s x = f.form s (Some x)

  next_found : (fuel : ℕ) (bytes : List ℕ) (o : Option X) (after : List ℕ) (xs : List X) (rest : List ℕ) → Found f bytes o after
      → ((ys : List X) (left : List ℕ) → until_at f.read fuel after ≡ Ok (ys, left) → Found (until f) after ys left)
      → onward o after (until_at f.read fuel after) ≡ Ok (xs, rest) → Found (until f) bytes xs rest
  next_found fuel bytes None after xs rest one more e =
      subst (λ (y : List X × List ℕ). Found (until f) bytes y.0 y.1) (ok_is ([], after) (xs, rest) e) (record { front = one.front; parts = one.parts; formed = one.formed })
  next_found fuel bytes (Some x) after xs rest one more e =
      let q = bind_ok (until_at f.read fuel after) (λ ys. Ok (x ∷ ys.0, ys.1)) (xs, rest) e in
      let two = more q.0.0 q.0.1 q.1 in
      subst (λ (y : List X × List ℕ). Found (until f) bytes y.0 y.1) (ok_is (x ∷ q.0.0, q.0.1) (xs, rest) q.2)
      (record {
        front = one.front ++ two.front;
        parts = in_three bytes one.front after two.front q.0.1 one.parts two.parts;
        formed = record { front = one.front; back = two.front; parts = refl; first = one.formed; second = two.formed };
      })

  until_found : (fuel : ℕ) (bytes : List ℕ) (xs : List X) (rest : List ℕ) → until_at f.read fuel bytes ≡ Ok (xs, rest) → Found (until f) bytes xs rest
  unfolding until_at
  until_found zero bytes xs rest e = absurd cc
  until_found (suc fuel) bytes xs rest e =
      let p = bind_ok (f.read bytes) (λ x. onward x.0 x.1 (until_at f.read fuel x.1)) (xs, rest) e in
      next_found fuel bytes p.0.0 p.0.1 xs rest (lf.found bytes p.0.0 p.0.1 p.1) (until_found fuel p.0.1) p.2

  until_again : (fuel : ℕ) (front : List ℕ) (xs : List X) (rest : List ℕ) → Until f.form front xs → length front < fuel → until_at f.read fuel (front ++ rest) ≡ Ok (xs, rest)
  unfolding until_at
  until_again zero front xs rest h le = absurd (omega arith)
  until_again (suc fuel) front [] rest h le = rw (lf.again front None rest h) refl
  until_again (suc fuel) front (x ∷ xs) rest h le =
      let regrouped : front ++ rest ≡ h.front ++ (h.back ++ rest) = ap (λ (s : List ℕ). s ++ rest) h.parts ∙ append_assoc h.front h.back rest in
      let one : f.read (front ++ rest) ≡ Ok (Some x, h.back ++ rest) = ap f.read regrouped ∙ lf.again h.front (Some x) (h.back ++ rest) h.first in
      let long = some h.front (Some x) h.first in
      rw (one, until_again fuel h.back xs rest h.second (omega (arith, ap length h.parts, length-append h.front h.back))) refl

  until_stops : (fuel : ℕ) (bytes : List ℕ) (e : Fault) → length bytes < fuel → until_at f.read fuel bytes ≡ Err e → UntilBreak f bytes e
  unfolding until_at
  until_stops zero bytes e le h = absurd (omega arith)
  until_stops (suc fuel) bytes e le h =
      elim (bind_err (f.read bytes) (λ x. onward x.0 x.1 (until_at f.read fuel x.1)) e h) [
        | inl first ↦ record { value = []; front = []; back = bytes; parts = refl; first = refl; second = lf.stops bytes e first }
        | inr p ↦
            let one = lf.found bytes p.0.0 p.0.1 p.1 in
            let q = onward_err p.0.0 p.0.1 (until_at f.read fuel p.0.1) e p.2 in
            let long = some one.front p.0.0 one.formed in
            let two = until_stops fuel p.0.1 e (omega (arith, ap length one.parts, length-append one.front p.0.1)) q.2 in
            record {
              value = q.0 ∷ two.value;
              front = one.front ++ two.front;
              back = two.back;
              parts = in_three bytes one.front p.0.1 two.front two.back one.parts two.parts;
              first = record { front = one.front; back = two.front; parts = refl; first = subst (λ (o : Option X). f.form one.front o) q.1 one.formed; second = two.first };
              second = two.second;
            }
      ]

  until_broken : (fuel : ℕ) (front back : List ℕ) (xs : List X) (e : Fault) → Each F front xs → f.breaks back e → length (front ++ back) < fuel → until_at f.read fuel (front ++ back) ≡ Err e
  unfolding until_at
  until_broken zero front back xs e h breaks le = absurd (omega arith)
  until_broken (suc fuel) front back [] e h breaks le = rw (h, lf.broken back e breaks) refl
  until_broken (suc fuel) front back (x ∷ xs) e h breaks le =
      let regrouped : front ++ back ≡ h.front ++ (h.back ++ back) = ap (λ (s : List ℕ). s ++ back) h.parts ∙ append_assoc h.front h.back back in
      let one : f.read (front ++ back) ≡ Ok (Some x, h.back ++ back) = ap f.read regrouped ∙ lf.again h.front (Some x) (h.back ++ back) h.first in
      let long = some h.front (Some x) h.first in
      rw (one, until_broken fuel h.back back xs e h.second breaks (omega (arith, ap length regrouped, length-append h.front (h.back ++ back)))) refl

  pub until_law : Law (until f)
  until_law = record {
    found = λ bytes xs rest e. until_found (suc (length bytes)) bytes xs rest e;
    again = λ front xs rest h. until_again (suc (length (front ++ rest))) front xs rest h (omega (arith, length-append front rest));
    within = λ bytes e h.
        let b = until_stops (suc (length bytes)) bytes e (omega arith) h in
        omega (arith, lf.within b.back e (lf.broken b.back e b.second), ap length b.parts, length-append b.front b.back);
    stops = λ bytes e h. until_stops (suc (length bytes)) bytes e (omega arith) h;
    broken = λ bytes e h. ap (until_at f.read (suc (length bytes))) h.parts ∙ until_broken (suc (length bytes)) h.front h.back h.value e h.first h.second (omega (arith, ap length h.parts));
    stays = λ bytes e more other h. behind_stays (Each F) (λ _ back. f.breaks back e) (λ _ back. f.breaks back (moved e more)) bytes more (λ xs back k. lf.stays back e more other k) h;
  }

unless_law : {X : Type 0} (b : Bool) (f : Format X) → Law f → Law (unless b f)
unless_law true f lf = yield_law None
unless_law false f lf = bind_law f (λ x. yield (Some x)) lf (λ x. yield_law (Some x))

-- what stands behind a byte isn't empty with it
pub behind_a_byte : {X : Type 0} (next : ℕ → Format X) (bytes : List ℕ) (x : X) → (byte >>= next).form bytes x → 1 ≤ length bytes
behind_a_byte next bytes x h = omega (arith, ap length h.parts, ap length h.first, length-append h.front h.back)

pub up_to_law : {X : Type 0} (last : ℕ) (next : ℕ → Format X) → ((b : ℕ) → Law (next b)) → Law (up_to last next)
up_to_law last next ln =
    until_law (byte >>= (λ b. unless (b == last) (next b))) (bind_law byte (λ b. unless (b == last) (next b)) byte_law (λ b. unless_law (b == last) (next b) (ln b)))
    (behind_a_byte (λ b. unless (b == last) (next b)))

-- ---- up to the end

ended : {A : Type 0} (b : Bool) (x y : A) (r : Result A Fault) → cond b (Ok x) r ≡ Ok y → ((b ≡ true) × (x ≡ y)) ⊎ ((b ≡ false) × (r ≡ Ok y))
ended true x y r e = inl (refl, cc)
ended false x y r e = inr (refl, e)

module _ {S X : Type 0} (step : S → Format X) (grow : S → X → S) (law : (s : S) → Law (step s)) (some : (s : S) (bytes : List ℕ) (x : X) → (step s).form bytes x → 1 ≤ length bytes) where
  abbrev G : S → List ℕ → X → Type 0
  G s = (step s).form

  abbrev R : S → List ℕ → Result (X × List ℕ) Fault
  R s = (step s).read

  -- what is read behind the first step, and all
  abbrev rest_of : ℕ → S → X × List ℕ → Result (List X) Fault
  rest_of fuel s x = and_then (steps_at R grow fuel (grow s x.0) x.1) (λ xs. Ok (x.0 ∷ xs))

  none_left : (s : S) (bytes : List ℕ) (xs : List X) → eqb (length bytes) 0 ≡ true → [] ≡ xs → AreSteps G grow s bytes xs
  none_left s bytes xs e same = subst (λ (ys : List X). AreSteps G grow s bytes ys) same (nil_from_length bytes (eqb-true _ _ e))

  steps_found : (fuel : ℕ) (s : S) (bytes : List ℕ) (xs : List X) → steps_at R grow fuel s bytes ≡ Ok xs → AreSteps G grow s bytes xs
  unfolding steps_at
  steps_found zero s bytes xs e =
      elim (ended (eqb (length bytes) 0) [] xs (wrong rules.Short bytes) e) [
        | inl p ↦ none_left s bytes xs p.0 p.1
        | inr p ↦ let k = p.1 in absurd cc
      ]
  steps_found (suc fuel) s bytes xs e =
      elim (ended (eqb (length bytes) 0) [] xs (and_then (R s bytes) (rest_of fuel s)) e) [
        | inl p ↦ none_left s bytes xs p.0 p.1
        | inr p ↦
            let q = bind_ok (R s bytes) (rest_of fuel s) xs p.1 in
            let t = bind_ok (steps_at R grow fuel (grow s q.0.0) q.0.1) (λ ys. Ok (q.0.0 ∷ ys)) xs q.2 in
            let one = (law s).found bytes q.0.0 q.0.1 q.1 in
            subst (λ (ys : List X). AreSteps G grow s bytes ys) (ok_is (q.0.0 ∷ t.0) xs t.2)
            (record { front = one.front; back = q.0.1; parts = one.parts; first = one.formed; second = steps_found fuel (grow s q.0.0) q.0.1 t.0 t.1 })
      ]

  steps_again : (fuel : ℕ) (s : S) (bytes : List ℕ) (xs : List X) → AreSteps G grow s bytes xs → length bytes ≤ fuel → steps_at R grow fuel s bytes ≡ Ok xs
  unfolding steps_at
  steps_again zero s bytes [] h le = rw h refl
  steps_again (suc fuel) s bytes [] h le = rw h refl
  steps_again zero s bytes (x ∷ xs) h le =
      absurd (omega (arith, some s h.front x h.first, ap length h.parts, length-append h.front h.back))
  steps_again (suc fuel) s bytes (x ∷ xs) h le =
      let long = some s h.front x h.first in
      let len : length bytes ≡ length h.front + length h.back = ap length h.parts ∙ length-append h.front h.back in
      let one : R s bytes ≡ Ok (x, h.back) = ap (R s) h.parts ∙ (law s).again h.front x h.back h.first in
      rw (not_empty bytes (omega arith), one, steps_again fuel (grow s x) h.back xs h.second (omega arith)) refl

  steps_break : (fuel : ℕ) (s : S) (bytes : List ℕ) (e : Fault) → length bytes ≤ fuel → steps_at R grow fuel s bytes ≡ Err e → StepsBreak step grow s bytes e
  unfolding steps_at
  steps_break zero s bytes e le h =
      let p = refused (eqb (length bytes) 0) [] (wrong rules.Short bytes) e h in
      absurd (omega (arith, some_left bytes p.0))
  steps_break (suc fuel) s bytes e le h =
      let p = refused (eqb (length bytes) 0) [] (and_then (R s bytes) (rest_of fuel s)) e h in
      elim (bind_err (R s bytes) (rest_of fuel s) e p.1) [
        | inl first ↦ here s bytes e (some_left bytes p.0) ((law s).stops bytes e first)
        | inr q ↦
            let one = (law s).found bytes q.0.0 q.0.1 q.1 in
            let long = some s one.front q.0.0 one.formed in
            elim (bind_err (steps_at R grow fuel (grow s q.0.0) q.0.1) (λ ys. Ok (q.0.0 ∷ ys)) e q.2) [
              | inl second ↦ later s q.0.0 bytes one.front q.0.1 e one.parts one.formed (steps_break fuel (grow s q.0.0) q.0.1 e (omega (arith, ap length one.parts, length-append one.front q.0.1)) second)
              | inr t ↦ let k = t.2 in absurd cc
            ]
      ]

  steps_broken : (fuel : ℕ) (s : S) (bytes : List ℕ) (e : Fault) → StepsBreak step grow s bytes e → length bytes ≤ fuel → steps_at R grow fuel s bytes ≡ Err e
  unfolding steps_at
  steps_broken zero s bytes e (here _ _ _ more breaks) le = absurd (omega arith)
  steps_broken (suc fuel) s bytes e (here _ _ _ more breaks) le = rw (not_empty bytes more, (law s).broken bytes e breaks) refl
  steps_broken zero s bytes e (later _ x _ front back _ parts first second) le =
      absurd (omega (arith, some s front x first, ap length parts, length-append front back))
  steps_broken (suc fuel) s bytes e (later _ x _ front back _ parts first second) le =
      let long = some s front x first in
      let len : length bytes ≡ length front + length back = ap length parts ∙ length-append front back in
      let one : R s bytes ≡ Ok (x, back) = ap (R s) parts ∙ (law s).again front x back first in
      rw (not_empty bytes (omega arith), one, steps_broken fuel (grow s x) back e second (omega arith)) refl

  steps_within : (s : S) (bytes : List ℕ) (e : Fault) → StepsBreak step grow s bytes e → e.left ≤ length bytes
  steps_within s bytes e (here _ _ _ more breaks) = (law s).within bytes e ((law s).broken bytes e breaks)
  steps_within s bytes e (later _ x _ front back _ parts first second) =
      omega (arith, steps_within (grow s x) back e second, ap length parts, length-append front back)

  steps_stay : (s : S) (bytes : List ℕ) (e : Fault) (more : List ℕ) → (e.rule ≡ rules.Short → ⊥) → StepsBreak step grow s bytes e → StepsBreak step grow s (bytes ++ more) (moved e more)
  steps_stay s bytes e more other (here _ _ _ long breaks) =
      here s (bytes ++ more) (moved e more) (omega (arith, length-append bytes more)) ((law s).stays bytes e more other breaks)
  steps_stay s bytes e more other (later _ x _ front back _ parts first second) =
      later s x (bytes ++ more) front (back ++ more) (moved e more) (more_behind bytes front back more parts) first (steps_stay (grow s x) back e more other second)

  pub to_end_law : (s : S) → WholeLaw (to_end step grow s)
  to_end_law s = record {
    found = λ bytes xs e. steps_found (length bytes) s bytes xs e;
    again = λ bytes xs h. steps_again (length bytes) s bytes xs h (omega arith);
    within = λ bytes e h. steps_within s bytes e (steps_break (length bytes) s bytes e (omega arith) h);
    stops = λ bytes e h. steps_break (length bytes) s bytes e (omega arith) h;
    broken = λ bytes e h. steps_broken (length bytes) s bytes e h (omega arith);
    stays = steps_stay s;
  }
