-- What a loop that reads up to the end, or up to a sign, has still to read.
use Rattle.std.proofs.Common.{◌≡◌, ℕ, zero, suc, ◌≤◌, ◌<◌, Bool, true, false, eqb, List, [], ◌∷◌, ◌++◌, length, Option, Some, None, Result, Ok, Err, refl, sym, ap, ◌∙◌, append_assoc, arith}
use Rattle.std.specs.Prelude.{◌==◌}
use Rattle.std.proofs.lemmas.List.{append-nil, length-append}
use Rattle.binary_grammar.specs.declared.fault.Fault.{Fault}
use Rattle.binary_grammar.specs.declared.fault.ReadError.{ReadError}
use Rattle.binary_grammar.specs.declared.fault.ReadError.TheVariants as errors
use Rattle.binary_grammar.specs.Fault.{Fails}
use Rattle.binary_grammar.specs.Format.{Format, ◌>>=◌, byte, byte_at, and_then, onto}
use Rattle.binary_grammar.specs.Several.{until_at, unless, steps_at, onto_all}
use Rattle.binary_grammar.proofs.Laws.{Law, some_left, byte_law}
use Rattle.binary_grammar.proofs.Loops.{regroup}
use Rattle.binary_grammar.proofs.Shorter.{shorter}

-- ---- a byte, and what is behind it

-- a byte takes one
pub byte_falls : (bytes : List ℕ) (b : ℕ) (mid : List ℕ) → byte_at bytes ≡ Ok (b, mid) → length bytes ≡ suc (length mid)
byte_falls bytes b mid e =
    let one = byte_law.found bytes b mid e in
    omega (arith, ap length one.parts, ap length one.formed, length-append one.front mid)

pub behind_falls : {X : Type 0} (f : Format X) → Law f → (bytes : List ℕ) (b : ℕ) (mid : List ℕ) (x : X) (after : List ℕ) → byte_at bytes ≡ Ok (b, mid) → f.read mid ≡ Ok (x, after) → length after < length bytes
behind_falls f lf bytes b mid x after e h = omega (arith, byte_falls bytes b mid e, shorter f lf mid x after h)

pub byte_stops : {X : Type 0} (next : ℕ → Format X) (bytes : List ℕ) (e : ReadError) → Fails e (byte_at bytes) → Fails e ((byte >>= next).read bytes)
byte_stops next bytes errors.Memory h = tt
byte_stops next bytes (errors.Malformed f) h = rw h refl

pub behind_stops : {X : Type 0} (next : ℕ → Format X) (bytes : List ℕ) (b : ℕ) (mid : List ℕ) (e : ReadError) → byte_at bytes ≡ Ok (b, mid) → Fails e ((next b).read mid) → Fails e ((byte >>= next).read bytes)
behind_stops next bytes b mid errors.Memory h k = tt
behind_stops next bytes b mid (errors.Malformed f) h k = rw h k

pub behind_is : {X : Type 0} (next : ℕ → Format X) (bytes : List ℕ) (b : ℕ) (mid : List ℕ) (r : Result (X × List ℕ) Fault) → byte_at bytes ≡ Ok (b, mid) → (next b).read mid ≡ r → (byte >>= next).read bytes ≡ r
behind_is next bytes b mid r h k = rw h k

-- ---- up to the end

-- what is read of all that is left, behind what was read
pub record Remains {S X : Type 0} (read : S → List ℕ → Result (X × List ℕ) Fault) (grow : S → X → S) (s : S) (bytes : List ℕ) (front : List X) (total : Result (List X) Fault) : Type 0 where
  pub fuel : ℕ
  pub enough : length bytes ≤ fuel
  pub same : onto_all front (steps_at read grow fuel s bytes) ≡ total

regroup_all : {X : Type 0} (front : List X) (x : X) (r : Result (List X) Fault) → onto_all front (and_then r (λ xs. Ok (x ∷ xs))) ≡ onto_all (front ++ x ∷ []) r
regroup_all {X = X} front x (Ok xs) = ap (λ (ys : List X). Ok ys) (simp append_assoc)
regroup_all front x (Err f) = refl

module _ {S X : Type 0} (read : S → List ℕ → Result (X × List ℕ) Fault) (grow : S → X → S) (s : S) (bytes : List ℕ) (front : List X) (total : Result (List X) Fault) where
  go_on_from : (fuel : ℕ) (x : X) (after : List ℕ) → length bytes ≤ fuel → onto_all front (steps_at read grow fuel s bytes) ≡ total → eqb (length bytes) 0 ≡ false → read s bytes ≡ Ok (x, after) → length after < length bytes → Remains read grow (grow s x) after (front ++ x ∷ []) total
  unfolding steps_at
  go_on_from zero x after enough same more h falls = absurd (omega (arith, some_left bytes more))
  go_on_from (suc fuel) x after enough same more h falls =
      let one : onto_all front (steps_at read grow (suc fuel) s bytes) ≡ onto_all (front ++ x ∷ []) (steps_at read grow fuel (grow s x) after) = rw (more, h) (regroup_all front x (steps_at read grow fuel (grow s x) after)) in
      record { fuel = fuel; enough = omega arith; same = sym one ∙ same }

  pub remains_on : Remains read grow s bytes front total → (x : X) (after : List ℕ) → eqb (length bytes) 0 ≡ false → read s bytes ≡ Ok (x, after) → length after < length bytes → Remains read grow (grow s x) after (front ++ x ∷ []) total
  remains_on r x after more h falls = go_on_from r.fuel x after r.enough r.same more h falls

  stop_from : (fuel : ℕ) (f : Fault) → length bytes ≤ fuel → onto_all front (steps_at read grow fuel s bytes) ≡ total → eqb (length bytes) 0 ≡ false → read s bytes ≡ Err f → total ≡ Err f
  unfolding steps_at
  stop_from zero f enough same more h = absurd (omega (arith, some_left bytes more))
  stop_from (suc fuel) f enough same more h =
      let one : onto_all front (steps_at read grow (suc fuel) s bytes) ≡ Err f = rw (more, h) refl in
      sym same ∙ one

  pub remains_stop : Remains read grow s bytes front total → (e : ReadError) → eqb (length bytes) 0 ≡ false → Fails e (read s bytes) → Fails e total
  remains_stop r errors.Memory more h = tt
  remains_stop r (errors.Malformed f) more h = stop_from r.fuel f r.enough r.same more h

  done_from : (fuel : ℕ) → onto_all front (steps_at read grow fuel s bytes) ≡ total → eqb (length bytes) 0 ≡ true → total ≡ Ok front
  unfolding steps_at
  done_from zero same none =
      let one : onto_all front (steps_at read grow 0 s bytes) ≡ Ok front = rw none (ap (λ (xs : List X). Ok xs) (append-nil front)) in
      sym same ∙ one
  done_from (suc fuel) same none =
      let one : onto_all front (steps_at read grow (suc fuel) s bytes) ≡ Ok front = rw none (ap (λ (xs : List X). Ok xs) (append-nil front)) in
      sym same ∙ one

  pub remains_done : Remains read grow s bytes front total → eqb (length bytes) 0 ≡ true → total ≡ Ok front
  remains_done r none = done_from r.fuel r.same none

-- ---- up to a sign

-- what is read of the values that are left, behind those that were read
pub record Awaits {X : Type 0} (read : List ℕ → Result (Option X × List ℕ) Fault) (bytes : List ℕ) (front : List X) (total : Result (List X × List ℕ) Fault) : Type 0 where
  pub fuel : ℕ
  pub enough : length bytes < fuel
  pub same : onto front (until_at read fuel bytes) ≡ total

module _ {X : Type 0} (read : List ℕ → Result (Option X × List ℕ) Fault) (bytes : List ℕ) (front : List X) (total : Result (List X × List ℕ) Fault) where
  await_from : (fuel : ℕ) (x : X) (after : List ℕ) → length bytes < fuel → onto front (until_at read fuel bytes) ≡ total → read bytes ≡ Ok (Some x, after) → length after < length bytes → Awaits read after (front ++ x ∷ []) total
  unfolding until_at
  await_from zero x after enough same h falls = absurd (omega arith)
  await_from (suc fuel) x after enough same h falls =
      let one : onto front (until_at read (suc fuel) bytes) ≡ onto (front ++ x ∷ []) (until_at read fuel after) = rw h (regroup front x (until_at read fuel after)) in
      record { fuel = fuel; enough = omega arith; same = sym one ∙ same }

  pub awaits_on : Awaits read bytes front total → (x : X) (after : List ℕ) → read bytes ≡ Ok (Some x, after) → length after < length bytes → Awaits read after (front ++ x ∷ []) total
  awaits_on r x after h falls = await_from r.fuel x after r.enough r.same h falls

  await_stop_from : (fuel : ℕ) (f : Fault) → length bytes < fuel → onto front (until_at read fuel bytes) ≡ total → read bytes ≡ Err f → total ≡ Err f
  unfolding until_at
  await_stop_from zero f enough same h = absurd (omega arith)
  await_stop_from (suc fuel) f enough same h =
      let one : onto front (until_at read (suc fuel) bytes) ≡ Err f = rw h refl in
      sym same ∙ one

  pub awaits_stop : Awaits read bytes front total → (e : ReadError) → Fails e (read bytes) → Fails e total
  awaits_stop r errors.Memory h = tt
  awaits_stop r (errors.Malformed f) h = await_stop_from r.fuel f r.enough r.same h

  await_done_from : (fuel : ℕ) (after : List ℕ) → length bytes < fuel → onto front (until_at read fuel bytes) ≡ total → read bytes ≡ Ok (None, after) → total ≡ Ok (front, after)
  unfolding until_at
  await_done_from zero after enough same h = absurd (omega arith)
  await_done_from (suc fuel) after enough same h =
      let one : onto front (until_at read (suc fuel) bytes) ≡ Ok (front, after) = rw h (ap (λ (xs : List X). Ok (xs, after)) (append-nil front)) in
      sym same ∙ one

  pub awaits_done : Awaits read bytes front total → (after : List ℕ) → read bytes ≡ Ok (None, after) → total ≡ Ok (front, after)
  awaits_done r after h = await_done_from r.fuel after r.enough r.same h

unless_true : {X : Type 0} (t : Bool) (f : Format X) (mid : List ℕ) → t ≡ true → (unless t f).read mid ≡ Ok (None, mid)
unless_true true f mid same = refl
unless_true false f mid same = absurd cc

unless_false : {X : Type 0} (t : Bool) (f : Format X) (mid : List ℕ) (x : X) (after : List ℕ) → t ≡ false → f.read mid ≡ Ok (x, after) → (unless t f).read mid ≡ Ok (Some x, after)
unless_false true f mid x after same h = absurd cc
unless_false false f mid x after same h = rw h refl

unless_stops : {X : Type 0} (t : Bool) (f : Format X) (mid : List ℕ) (e : ReadError) → t ≡ false → Fails e (f.read mid) → Fails e ((unless t f).read mid)
unless_stops t f mid errors.Memory same h = tt
unless_stops true f mid (errors.Malformed d) same h = absurd cc
unless_stops false f mid (errors.Malformed d) same h = rw h refl

-- a byte, and the sign or a value
abbrev pub sign_or : {X : Type 0} → ℕ → (ℕ → Format X) → Format (Option X)
sign_or last next = byte >>= (λ b. unless (b == last) (next b))

module _ {X : Type 0} (last : ℕ) (next : ℕ → Format X) (bytes : List ℕ) (b : ℕ) (mid : List ℕ) (h : byte_at bytes ≡ Ok (b, mid)) where
  pub sign_is : (b == last) ≡ true → (sign_or last next).read bytes ≡ Ok (None, mid)
  sign_is same = behind_is (λ c. unless (c == last) (next c)) bytes b mid (Ok (None, mid)) h (unless_true (b == last) (next b) mid same)

  pub value_is : (x : X) (after : List ℕ) → (b == last) ≡ false → (next b).read mid ≡ Ok (x, after) → (sign_or last next).read bytes ≡ Ok (Some x, after)
  value_is x after other k = behind_is (λ c. unless (c == last) (next c)) bytes b mid (Ok (Some x, after)) h (unless_false (b == last) (next b) mid x after other k)

  pub value_stops : (e : ReadError) → (b == last) ≡ false → Fails e ((next b).read mid) → Fails e ((sign_or last next).read bytes)
  value_stops e other k = behind_stops (λ c. unless (c == last) (next c)) bytes b mid e h (unless_stops (b == last) (next b) mid e other k)
