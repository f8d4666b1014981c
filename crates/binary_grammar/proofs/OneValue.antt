-- Bytes have one value, and break one rule at one place.
use Rattle.std.proofs.Common.{◌≡◌, ℕ, ◌+◌, List, [], ◌++◌, length, Ok, sym, ap, ◌∙◌, arith}
use Rattle.std.proofs.lemmas.List.{length-append}
use Rattle.binary_grammar.specs.declared.fault.Fault.{Fault}
use Rattle.binary_grammar.specs.Format.{Format, Whole}
use Rattle.binary_grammar.specs.Cursor.{Cursor, offset}
use Rattle.binary_grammar.specs.Place.{IsPlaced}
use Rattle.binary_grammar.proofs.Laws.{Law, WholeLaw, ok_is}

module _ {X : Type 0} (f : Format X) (lf : Law f) where
  pub one_value : (front : List ℕ) (x y : X) → f.form front x → f.form front y → x ≡ y
  one_value front x y h k = ap (λ (p : X × List ℕ). p.0) (ok_is (x, []) (y, []) (sym (lf.again front x [] h) ∙ lf.again front y [] k))

  pub one_break : (bytes : List ℕ) (d e : Fault) → f.breaks bytes d → f.breaks bytes e → d ≡ e
  one_break bytes d e h k = let p = lf.broken bytes d h in let q = lf.broken bytes e k in cc

  pub no_front : (front rest : List ℕ) (x : X) (e : Fault) → f.form front x → f.breaks (front ++ rest) e → ⊥
  no_front front rest x e h k = let p = lf.again front x rest h in let q = lf.broken (front ++ rest) e k in cc

  pub placed : (old new : Cursor) (x : X) → length old.left + offset old ≡ old.end → new.end ≡ old.end → f.read old.left ≡ Ok (x, new.left) → IsPlaced f.form old new x
  placed old new x within same h =
      let one = lf.found old.left x new.left h in
      record { front = one.front; parts = one.parts; formed = one.formed; moved = omega (arith, ap length one.parts, length-append one.front new.left) }

module _ {X : Type 0} (w : Whole X) (lw : WholeLaw w) where
  pub all_one_value : (bytes : List ℕ) (x y : X) → w.form bytes x → w.form bytes y → x ≡ y
  all_one_value bytes x y h k = ok_is x y (sym (lw.again bytes x h) ∙ lw.again bytes y k)

  pub all_one_break : (bytes : List ℕ) (d e : Fault) → w.breaks bytes d → w.breaks bytes e → d ≡ e
  all_one_break bytes d e h k = let p = lw.broken bytes d h in let q = lw.broken bytes e k in cc

  pub all_none : (bytes : List ℕ) (x : X) (e : Fault) → w.form bytes x → w.breaks bytes e → ⊥
  all_none bytes x e h k = let p = lw.again bytes x h in let q = lw.broken bytes e k in cc
