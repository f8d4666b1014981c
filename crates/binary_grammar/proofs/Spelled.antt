-- What is written of a value that is typed and meets the tests is of its grammar, and is read again.
use Rattle.std.proofs.Common.{◌≡◌, ℕ, zero, suc, ◌+◌, ◌-◌, ◌/◌, ◌%◌, ◌^◌, ◌≤◌, ◌<◌, Bool, true, false, cond, ltb, List, [], ◌∷◌, ◌++◌, length, Option, Some, None, Ok, refl, sym, ap, subst, ◌∙◌, append_assoc, arith, eq-eqb}
use Rattle.std.specs.Prelude.{◌==◌}
use Rattle.std.specs.List.{flat_map, AllByRecursion}
use Rattle.std.specs.Str.{is_utf8}
use Rattle.std.proofs.Math.Nat.{pow-succ'}
use Rattle.std.proofs.lemmas.Bool.{ltb-true, le-ltb}
use Rattle.std.proofs.lemmas.List.{append-nil}
use Rattle.std.proofs.lemmas.List.Elements.{recursion_from_All}
use Rattle.std.proofs.lemmas.List.Concat.{flat_map-cons}
use Rattle.binary_grammar.specs.Format as format
use Rattle.binary_grammar.specs.Format.{Format, Whole, IsLeb, IsU32}
use Rattle.binary_grammar.specs.Judged.{passed}
use Rattle.binary_grammar.specs.Several.{series, Until, unless, AreSteps}
use Rattle.binary_grammar.specs.Syntax.{Extent, unbounded, bounded, Syntax, one_byte, number, signed_number, some_bytes, some_name, gives, refuses, tested, judged, measured, part, times, up_to, sized, where_known, exactly, begins, everything, keeping, seen, steps, Faces, then_in, meaning, leb_bytes, u32_bytes, with_length, bytes, IsTyped, EachWhere, Meets}
use Rattle.binary_grammar.proofs.Lawful.{lawful}
use Rattle.binary_grammar.proofs.Signed.{longer, signed_spelled}

-- ---- numbers and names

leb_spelled : (k n : ℕ) → n < 128 ^ (suc k) → IsLeb (leb_bytes k n) n × (length (leb_bytes k n) ≤ suc k)
unfolding leb_bytes
leb_spelled zero n h = ((omega arith, refl), omega arith)
leb_spelled (suc k) n h =
    elim (ltb n 128) as (λ t. ltb n 128 ≡ t → IsLeb (cond t (n ∷ []) ((n % 128 + 128) ∷ leb_bytes k (n / 128))) n × (length (cond t (n ∷ []) ((n % 128 + 128) ∷ leb_bytes k (n / 128))) ≤ suc (suc k))) [
      | true ↦ λ t. ((ltb-true _ _ t, refl), omega arith)
      | false ↦ λ t.
          let high = leb_spelled k (n / 128) (omega (arith, pow-succ' 128 (suc k))) in
          (longer (n % 128 + 128) n (n / 128) (leb_bytes k (n / 128)) (omega arith) (omega arith) high.0, omega (arith, high.1))
    ] refl

pub u32_spelled : (n : ℕ) → n < 2 ^ 32 → IsU32 (u32_bytes n) n
unfolding u32_bytes
u32_spelled n h =
    let d = leb_spelled 4 n (omega arith) in
    record { digits = d.0; short = d.1; small = h }

name_spelled : (xs : List ℕ) → is_utf8 xs ≡ true → length xs < 2 ^ 32 → format.name.form (with_length xs) xs
unfolding format.name
name_spelled xs text small = record { value = length xs; front = u32_bytes (length xs); back = xs; parts = refl; first = u32_spelled (length xs) small; second = ((refl, refl), text) }

-- one digit, and those behind it
pub leb_more : (more n : ℕ) → 128 ≤ n → 0 < more → leb_bytes more n ≡ (n % 128 + 128) ∷ leb_bytes (more - 1) (n / 128)
unfolding leb_bytes
leb_more zero n large some = absurd (omega arith)
leb_more (suc k) n large some =
    let e : suc k - 1 ≡ k = omega arith in
    rw (le-ltb n 128 large, e) refl

-- ---- several of one kind

module _ {S X : Type 0} (grow : S → X → S) (P : X → Type 0) (Q : S → X → Type 0) (write : X → List ℕ) where
  series_spelled : (f : S → Format X) → ((s : S) (x : X) → P x → Q s x → (f s).form (write x) x) → (s : S) (xs : List X) → AllByRecursion P xs → EachWhere Q grow s xs → (series f grow (length xs) s).form (flat_map write xs) xs
  unfolding series
  series_spelled f one s [] p q = (refl, refl)
  series_spelled f one s (x ∷ xs) p q =
      record {
        value = x;
        front = write x;
        back = flat_map write xs;
        parts = flat_map-cons write x xs;
        first = one s x p.0 q.0;
        second = record { value = xs; front = flat_map write xs; back = []; parts = sym (append-nil (flat_map write xs)); first = series_spelled f one (grow s x) xs p.1 q.1; second = (refl, refl) };
      }

  steps_spelled : (F : S → List ℕ → X → Type 0) → ((s : S) (x : X) → P x → Q s x → F s (write x) x) → (s : S) (xs : List X) → AllByRecursion P xs → EachWhere Q grow s xs → AreSteps F grow s (flat_map write xs) xs
  steps_spelled F one s [] p q = refl
  steps_spelled F one s (x ∷ xs) p q =
      record { front = write x; back = flat_map write xs; parts = flat_map-cons write x xs; first = one s x p.0 q.0; second = steps_spelled F one (grow s x) xs p.1 q.1 }

module _ {X : Type 0} (last : ℕ) (which : X → ℕ) (next : ℕ → Format X) (write : X → List ℕ) (P Q : X → Type 0) where
  -- the sign, or a value
  abbrev F : List ℕ → Option X → Type 0
  F = (format.◌>>=◌ format.byte (λ b. unless (b == last) (next b))).form

  abbrev behind : X → List ℕ
  behind x = which x ∷ write x

  sign_spelled : F (last ∷ []) None
  sign_spelled =
      let same : (last == last) ≡ true = eq-eqb last last refl in
      record { value = last; front = last ∷ []; back = []; parts = refl; first = refl; second = subst (λ (b : Bool). (unless b (next last)).form [] None) (sym same) (refl, refl) }

  one_spelled : (x : X) → (next (which x)).form (write x) x → (which x == last) ≡ false → F (behind x) (Some x)
  one_spelled x formed other =
      record {
        value = which x;
        front = which x ∷ [];
        back = write x;
        parts = refl;
        first = refl;
        second = subst (λ (b : Bool). (unless b (next (which x))).form (write x) (Some x)) (sym other)
            (record { value = x; front = write x; back = []; parts = sym (append-nil (write x)); first = formed; second = (refl, refl) });
      }

  until_spelled : ((x : X) → P x → Q x → (next (which x)).form (write x) x) → (xs : List X) → AllByRecursion P xs → AllByRecursion (λ x. Q x × ((which x == last) ≡ false)) xs → Until F (flat_map behind xs ++ last ∷ []) xs
  until_spelled one [] p q = sign_spelled
  until_spelled one (x ∷ xs) p q =
      record {
        front = behind x;
        back = flat_map behind xs ++ last ∷ [];
        parts = ap (λ (t : List ℕ). t ++ last ∷ []) (flat_map-cons behind x xs) ∙ append_assoc (behind x) (flat_map behind xs) (last ∷ []);
        first = one_spelled x (one x p.0 q.0.0) q.0.1;
        second = until_spelled one xs p.1 q.1;
      }

-- ---- all

abbrev pub form_in : (e : Extent) (X : Type 0) → Faces e X → List ℕ → X → Type 0
form_in unbounded X f = f.form
form_in bounded X w = w.form

then_in_spelled : (e : Extent) (A B : Type 0) (f : Format A) (g : A → Faces e B) (a : A) (y : B) (front back : List ℕ) → f.form front a → form_in e B (g a) back y → form_in e B (then_in e A B f g) (front ++ back) y
then_in_spelled unbounded A B f g a y front back first second = record { value = a; front = front; back = back; parts = refl; first = first; second = second }
then_in_spelled bounded A B f g a y front back first second = record { value = a; front = front; back = back; parts = refl; first = first; second = second }

-- a value behind the byte that says which it is
behind_spelled : {X : Type 0} (next : ℕ → Format X) (b : ℕ) (bytes : List ℕ) (x : X) → (next b).form bytes x → (format.◌>>=◌ format.byte next).form (b ∷ bytes) x
behind_spelled next b bytes x h = record { value = b; front = b ∷ []; back = bytes; parts = refl; first = refl; second = h }

pub spelled : {e : Extent} {C X : Type 0} (s : Syntax e C X) (there : C) (x : X) → IsTyped s x → Meets s there x → form_in e X (meaning s there) (bytes s x) x
spelled one_byte there b z h = refl
spelled number there n z h = u32_spelled n z
spelled (signed_number bits) there z t h = signed_spelled bits z t.0 t.1
spelled (some_bytes n) there xs z h = (refl, h)
spelled some_name there xs z h = name_spelled xs z.0 z.1
spelled (gives x) there y z h = (refl, h)
spelled (refuses rule) there y z h = h
spelled (tested rule test s) there x z h = (spelled s there x z h.0, h.1)
spelled (judged judge view s) there y z h = record { value = view y; formed = spelled s there (view y) z h.0; judged = h.1 }
spelled (measured rule test s) there x z h = record { value = x; formed = spelled s there x z h.0; judged = ap (λ (b : Bool). passed rule b x) h.1 }
spelled (part {e = e} {A = A} {B = B} s view next) there y z h =
    then_in_spelled e A B (meaning s there) (λ a. meaning (next a) there) (view y) y (bytes s (view y)) (bytes (next (view y)) y) (spelled s there (view y) z.0 h.0) (spelled (next (view y)) there y z.1 h.1)
spelled (times {X = X} grow s n) there xs z h =
    subst (λ (k : ℕ). (series (meaning s) grow k there).form (flat_map (bytes s) xs) xs) h.1
    (series_spelled grow (IsTyped s) (Meets s) (bytes s) (meaning s) (λ t x p q. spelled s t x p q) there xs (recursion_from_All (IsTyped s) xs z) h.0)
spelled (up_to last which next) there xs z h =
    until_spelled last which (λ b. meaning (next b) there) (λ x. bytes (next (which x)) x) (λ x. IsTyped (next (which x)) x) (λ x. Meets (next (which x)) there x)
    (λ x p q. spelled (next (which x)) there x p q) xs
    (recursion_from_All (λ x. IsTyped (next (which x)) x) xs z) (recursion_from_All (λ x. Meets (next (which x)) there x × ((which x == last) ≡ false)) xs h)
spelled (sized s) there x z h =
    record { value = length (bytes s x); front = u32_bytes (length (bytes s x)); back = bytes s x; parts = refl; first = u32_spelled (length (bytes s x)) z.1; second = (spelled s there x z.0 h, refl) }
spelled (where_known known s) there x z h = spelled s (known there) x z h
spelled (exactly s) there x z h = spelled s there x z h
spelled (begins s) there x z h = record { value = x; front = bytes s x; back = []; parts = sym (append-nil (bytes s x)); first = spelled s there x z h; second = refl }
spelled everything there xs z h = refl
spelled (keeping s) there y z h = record { value = y.0; formed = h; made = refl }
spelled (seen make view s) there y z h = record { value = view y; formed = spelled s there (view y) z h.0; made = sym h.1 }
spelled (steps grow which next) there xs z h =
    steps_spelled grow (λ x. IsTyped (next (which x)) x) (λ t x. Meets (next (which x)) t x) (λ x. which x ∷ bytes (next (which x)) x) (λ t. (format.◌>>=◌ format.byte (λ b. meaning (next b) t)).form)
    (λ t x p q. behind_spelled (λ b. meaning (next b) t) (which x) (bytes (next (which x)) x) x (spelled (next (which x)) t x p q)) there xs
    (recursion_from_All (λ x. IsTyped (next (which x)) x) xs z) h

-- what was written is read
pub read_again : {C X : Type 0} (s : Syntax unbounded C X) (there : C) (x : X) (rest : List ℕ) → IsTyped s x → Meets s there x → (meaning s there).read (bytes s x ++ rest) ≡ Ok (x, rest)
read_again s there x rest z h = (lawful s there).again (bytes s x) x rest (spelled s there x z h)

-- what was written of all of some bytes is read
pub all_read_again : {C X : Type 0} (s : Syntax bounded C X) (there : C) (x : X) → IsTyped s x → Meets s there x → (meaning s there).read (bytes s x) ≡ Ok x
all_read_again s there x z h = (lawful s there).again (bytes s x) x (spelled s there x z h)
