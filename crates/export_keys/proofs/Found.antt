-- Keys that are found, and keys that aren't.
use Rattle.std.proofs.Common.{◌≡◌, ◌∙◌, ◌+◌, ℕ, zero, suc, true, false, List, [], ◌∷◌, take, slice_get, Option, Some, None, is_some, add-one, refl, sym, ap, subst, inl, inr}
use Rattle.std.specs.Prelude.{option_map}
use Rattle.std.specs.Map.{lookup}
use Rattle.std.proofs.lemmas.Bool.{cases_Bool}
use Rattle.wit_order.specs.Order.{Has}
use Rattle.wit_types.specs.WorldKey.{Known, known, key_eq, known_eq-Decides}
use Rattle.wit_types.specs.declared.world.WorldItem.{WorldItem}
use Rattle.wit_types.specs.declared.world_key.WorldKey.{WorldKey}
use Rattle.export_keys.specs.Keys.{keys_of}

abbrev Entries : Type 0
Entries = List (WorldKey × WorldItem)

-- a key that is looked up is one of these exactly where it is found
pub found_is : (k : WorldKey) (es : Entries) → is_some (lookup (key_eq k) es) ≡ true → Has (keys_of es) (known k)
found_is k [] e = absurd cc
found_is k (x ∷ es) e = elim (cases_Bool (key_eq k x.0)) [
  | inl same ↦ inl ((known_eq-Decides (known k) (known x.0)).0 same)
  | inr other ↦ inr (found_is k es (let is : lookup (key_eq k) (x ∷ es) ≡ lookup (key_eq k) es = rw other refl in sym (ap is_some is) ∙ e))
]

pub one_is_found : (k : WorldKey) (es : Entries) → Has (keys_of es) (known k) → is_some (lookup (key_eq k) es) ≡ true
one_is_found k [] h = absurd h
one_is_found k (x ∷ es) h = elim (cases_Bool (key_eq k x.0)) [
  | inl same ↦ rw same refl
  | inr other ↦ (let is : lookup (key_eq k) (x ∷ es) ≡ lookup (key_eq k) es = rw other refl in ap is_some is ∙ one_is_found k es (rest other h))
]
  where
    rest : key_eq k x.0 ≡ false → Has (keys_of (x ∷ es)) (known k) → Has (keys_of es) (known k)
    rest other (inl is) = (let bad : true ≡ false = sym ((known_eq-Decides (known k) (known x.0)).1 is) ∙ other in absurd cc)
    rest other (inr later) = later

-- a key that stands there
pub key_at : (es : Entries) (i : ℕ) (e : WorldKey × WorldItem) → slice_get es i ≡ Some e → Has (keys_of es) (known e.0)
key_at [] i e at = absurd cc
key_at (x ∷ es) zero e at = inl (let same : x ≡ e = cc in ap (λ (y : WorldKey × WorldItem). known y.0) (sym same))
key_at (x ∷ es) (suc i) e at = inr (key_at es i e at)

front : (P : Known → Type 0) (es : Entries) (i : ℕ) → ((key : Known) → Has (keys_of (take i es)) key → P key) → ((e : WorldKey × WorldItem) → slice_get es i ≡ Some e → P (known e.0))
    → (key : Known) → Has (keys_of (take (suc i) es)) key → P key
front P [] i before here key h = absurd h
front P (x ∷ es) zero before here key (inl is) = subst P (sym is) (here x refl)
front P (x ∷ es) zero before here key (inr h) = absurd h
front P (x ∷ es) (suc i) before here key (inl is) = before key (inl is)
front P (x ∷ es) (suc i) before here key (inr h) = front P es i (λ k later. before k (inr later)) here key h

-- what holds of the keys before and of the next holds of one more
pub one_more : (P : Known → Type 0) (es : Entries) (i : ℕ) → ((key : Known) → Has (keys_of (take i es)) key → P key) → ((e : WorldKey × WorldItem) → slice_get es i ≡ Some e → P (known e.0))
    → (key : Known) → Has (keys_of (take (i + 1) es)) key → P key
one_more P es i before here key h = front P es i before here key (subst (λ n. Has (keys_of (take n es)) key) (add-one i) h)

pub never_some : {X Y : Type 0} (f : X → Y) (o : Option X) (y : Y) → option_map f o ≡ Some y → ((x : X) → o ≡ Some x → ⊥) → ⊥
never_some f None y is none = cc
never_some f (Some x) y is none = none x refl
