-- Entries of a map, of which some stay.
use Rattle.std.proofs.Common.{◌≡◌, ℕ, zero, suc, Bool, true, List, ◌∷◌, inl, inr, Some, String, refl, sym, subst, ap, ◌∙◌, arith}
use Rattle.std.proofs.lemmas.Option.{same_Some}
use Rattle.std.specs.Prelude.{slice_get, string_bytes}
use Rattle.std.specs.declared.alloc.Global.{Global}
use Rattle.wit_plans.specs.Passed.wit_order-Order.{Has}
use Rattle.wit_moved_trees.specs.Passed.wit_moves-Interfaces.{AreKept, no_entries, one_goes, one_stays}
use Rattle.wit_placed.specs.Naming.{AreNamesApart}
use Rattle.wit_placed.proofs.Members.{has_at, has_get}

module _ {V : Type 0} (stays : V → Bool) (changes : V → V → Type 0) where
  -- one that is there was one
  pub entry_was : (old new : List (String Global × V)) → AreKept stays changes old new → (e : String Global × V) → Has new e → (v : V) × Has old (e.0, v) × (stays v ≡ true) × changes v e.1
  entry_was _ _ no_entries e h = absurd h
  entry_was _ _ (one_goes k v es fs s rest) e h = (let r = entry_was es fs rest e h in (r.0, inr r.1, r.2, r.3))
  entry_was _ _ (one_stays k v w es fs s m rest) e h = elim h as (λ _. (u : V) × Has ((k, v) ∷ es) (e.0, u) × (stays u ≡ true) × changes u e.1) [
    | inl here ↦ (v, inl (ap (λ (z : String Global × V). (z.0, v)) here), s, subst (λ (z : String Global × V). changes v z.1) (sym here) m)
    | inr later ↦ (let r = entry_was es fs rest e later in (r.0, inr r.1, r.2, r.3))
  ]

  -- one that stays is there
  pub entry_stays : (old new : List (String Global × V)) → AreKept stays changes old new → (e : String Global × V) → Has old e → stays e.1 ≡ true → (w : V) × Has new (e.0, w) × changes e.1 w
  entry_stays _ _ no_entries e h st = absurd h
  entry_stays _ _ (one_goes k v es fs s rest) e h st = elim h as (λ _. (u : V) × Has fs (e.0, u) × changes e.1 u) [
    | inl here ↦ absurd (let same : stays e.1 ≡ stays v = ap (λ (z : String Global × V). stays z.1) here in cc)
    | inr later ↦ entry_stays es fs rest e later st
  ]
  entry_stays _ _ (one_stays k v w es fs s m rest) e h st = elim h as (λ _. (u : V) × Has ((k, w) ∷ fs) (e.0, u) × changes e.1 u) [
    | inl here ↦ (w, inl (ap (λ (z : String Global × V). (z.0, w)) here), subst (λ (z : String Global × V). changes z.1 w) (sym here) m)
    | inr later ↦ (let r = entry_stays es fs rest e later st in (r.0, inr r.1, r.2))
  ]

  -- ---- names that are apart

  -- none of those behind has the name of one that stays
  first_apart : (k : String Global) (v : V) (es fs : List (String Global × V)) → AreKept stays changes es fs → AreNamesApart ((k, v) ∷ es) → (j : ℕ) (f : String Global × V) → slice_get fs j ≡ Some f → string_bytes k ≡ string_bytes f.0 → ⊥
  first_apart k v es fs rest apart j f at same =
      let r = entry_was es fs rest f (has_get fs j f at) in
      let place = has_at es (f.0, r.0) r.1 in
      let one : 0 ≡ suc place.0 = apart 0 (suc place.0) (k, v) (f.0, r.0) refl place.1 same in
      omega (arith, one)

  others_apart : (x : String Global × V) (es : List (String Global × V)) → AreNamesApart (x ∷ es) → AreNamesApart es
  others_apart x es apart i j e f at_i at_j same = (let one : suc i ≡ suc j = apart (suc i) (suc j) e f at_i at_j same in omega (arith, one))

  pub kept_apart : (old new : List (String Global × V)) → AreKept stays changes old new → AreNamesApart old → AreNamesApart new
  kept_apart _ _ no_entries apart i j e f at_i at_j same = absurd cc
  kept_apart _ _ (one_goes k v es fs s rest) apart i j e f at_i at_j same = kept_apart es fs rest (others_apart (k, v) es apart) i j e f at_i at_j same
  kept_apart _ _ (one_stays k v w es fs s m rest) apart zero zero e f at_i at_j same = refl
  kept_apart _ _ (one_stays k v w es fs s m rest) apart zero (suc j) e f at_i at_j same =
      absurd (first_apart k v es fs rest apart j f at_j (ap (λ (z : String Global × V). string_bytes z.0) (same_Some (k, w) e at_i) ∙ same))
  kept_apart _ _ (one_stays k v w es fs s m rest) apart (suc i) zero e f at_i at_j same =
      absurd (first_apart k v es fs rest apart i e at_i (ap (λ (z : String Global × V). string_bytes z.0) (same_Some (k, w) f at_j) ∙ sym same))
  kept_apart _ _ (one_stays k v w es fs s m rest) apart (suc i) (suc j) e f at_i at_j same = ap suc (kept_apart es fs rest (others_apart (k, v) es apart) i j e f at_i at_j same)
