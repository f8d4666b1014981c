-- Keys of a world tell what they are of.
use Rattle.std.proofs.Common.{◌≡◌, ℕ, List, [], ◌∷◌, inl, inr, String, sym, subst, ap, ◌∙◌}
use Rattle.std.proofs.lemmas.Option.{same_Some}
use Rattle.std.specs.Prelude.{string_bytes}
use Rattle.std.specs.declared.alloc.Global.{Global}
use Rattle.wit_order.specs.Order.{Has}
use Rattle.wit_words.specs.declared.source_map.Span.{Span}
use Rattle.wit_types.specs.declared.interface.Interface.{Interface}
use Rattle.wit_types.specs.declared.interface.TypeDef.{TypeDef}
use Rattle.wit_types.specs.declared.stability.Stability.{Stability}
use Rattle.wit_types.specs.declared.world.WorldItem.{WorldItem}
use Rattle.wit_types.specs.declared.world.WorldItem.TheVariants as item
use Rattle.wit_types.specs.declared.world_key.WorldKey.{WorldKey}
use Rattle.wit_types.specs.declared.world_key.WorldKey.TheVariants as key
use Rattle.wit_types.specs.declared.«package».Package.{Package}
use Rattle.wit_reach.specs.Lists.{item_interface}
use Rattle.wit_elaborated.specs.Worlds.{IsKeyOfItem, AreKeysOfItems}
use Rattle.wit_item_names.proofs.Told.{one_interface, not_plain}
use Rattle.wit_item_names.specs.Apart.{AreNamedApart}
use Rattle.wit_item_names.specs.Passed.wit_labels-Plain.{ArePlainApart}
use Rattle.wit_item_names.specs.Plain.{ArePlainlyNamed}
use Rattle.wit_item_names.specs.Used.{HasText}
use Rattle.linked_worlds.specs.Texts.{AreTextsApart}

-- ---- keys

abbrev pub text_of_key : WorldKey → List ℕ
text_of_key (key.Name x) = string_bytes x
text_of_key (key.Interface i) = []

-- under one plain name stands one item
pub one_item : (es : List (WorldKey × WorldItem)) → ArePlainApart es → (x y : String Global) (a b : WorldItem) → Has es (key.Name x, a) → Has es (key.Name y, b) → string_bytes x ≡ string_bytes y → a ≡ b
one_item [] apart x y a b has other same = absurd has
one_item ((key.Interface i, c) ∷ es) apart x y a b (inl here) other same = absurd (let e : key.Name x ≡ key.Interface i = ap (λ (z : WorldKey × WorldItem). z.0) here in cc)
one_item ((key.Interface i, c) ∷ es) apart x y a b (inr has) (inl here) same = absurd (let e : key.Name y ≡ key.Interface i = ap (λ (z : WorldKey × WorldItem). z.0) here in cc)
one_item ((key.Interface i, c) ∷ es) apart x y a b (inr has) (inr other) same = one_item es apart x y a b has other same
one_item ((key.Name z, c) ∷ es) apart x y a b (inl one) (inl two) same = ap (λ (w : WorldKey × WorldItem). w.1) one ∙ sym (ap (λ (w : WorldKey × WorldItem). w.1) two)
one_item ((key.Name z, c) ∷ es) apart x y a b (inl one) (inr other) same = absurd (apart.0 y b other (sym (ap text_of_key (ap (λ (w : WorldKey × WorldItem). w.0) one)) ∙ same))
one_item ((key.Name z, c) ∷ es) apart x y a b (inr has) (inl two) same = absurd (apart.0 x a has (sym (ap text_of_key (ap (λ (w : WorldKey × WorldItem). w.0) two)) ∙ sym same))
one_item ((key.Name z, c) ∷ es) apart x y a b (inr has) (inr other) same = one_item es apart.1 x y a b has other same

item_of : (es : List (WorldKey × WorldItem)) → AreKeysOfItems es → (i : ℕ) (x : WorldItem) → Has es (key.Interface i, x) → item_interface x ≡ i ∷ []
item_of [] keys i x h = absurd h
item_of (e ∷ es) keys i x (inl here) = subst IsKeyOfItem (sym here) keys.0
item_of (e ∷ es) keys i x (inr later) = item_of es keys.1 i x later

module _ (packages : List Package) (interfaces : List Interface) (apart : AreNamedApart packages interfaces) where
  -- ---- worlds

  module _ (es : List (WorldKey × WorldItem)) (keys : AreKeysOfItems es) (types : List TypeDef) (plain : ArePlainlyNamed types es) where
    -- what has a plain name is what stands under that
    under : (k : WorldKey) (i : ℕ) (s : Stability) (at : Span) (x : String Global) (a : WorldItem) → Has es (k, item.Interface i s at) → Has es (key.Name x, a) → HasText packages interfaces k (string_bytes x) → item.Interface i s at ≡ a
    under (key.Name y) i s at x a has other text = one_item es plain.apart y x (item.Interface i s at) a has other (sym (same_Some (string_bytes x) (string_bytes y) text))
    under (key.Interface j) i s at x a has other text = absurd (not_plain packages interfaces apart j (string_bytes x) text (plain.plain x a other))

    own_key : (i j : ℕ) (s : Stability) (at : Span) → Has es (key.Interface i, item.Interface j s at) → i ≡ j
    own_key i j s at has = (let one : j ∷ [] ≡ i ∷ [] = item_of es keys i (item.Interface j s at) has in cc)

    interface_id : (i j : ℕ) (s t : Stability) (at to : Span) → item.Interface i s at ≡ item.Interface j t to → i ≡ j
    interface_id i j s t at to e = cc

    one_imported : (k l : WorldKey) (i j : ℕ) (s t : Stability) (at to : Span) (text : List ℕ) → Has es (k, item.Interface i s at) → Has es (l, item.Interface j t to)
        → HasText packages interfaces k text → HasText packages interfaces l text → i ≡ j
    one_imported k (key.Name y) i j s t at to text has other a b =
        interface_id i j s t at to (under k i s at y (item.Interface j t to) has other (subst (HasText packages interfaces k) (same_Some text (string_bytes y) b) a))
    one_imported (key.Name x) (key.Interface m) i j s t at to text has other a b =
        sym (interface_id j i t s to at (under (key.Interface m) j t to x (item.Interface i s at) other has (subst (HasText packages interfaces (key.Interface m)) (same_Some text (string_bytes x) a) b)))
    one_imported (key.Interface l) (key.Interface m) i j s t at to text has other a b = sym (own_key l i s at has) ∙ one_interface packages interfaces apart l m text a b ∙ own_key m j t to other

pub texts_apart : (packages : List Package) (interfaces : List Interface) (es : List (WorldKey × WorldItem)) (types : List TypeDef) → AreNamedApart packages interfaces → AreKeysOfItems es → ArePlainlyNamed types es
    → AreTextsApart packages interfaces es
texts_apart packages interfaces es types apart keys plain = record {
  interfaces_apart = one_imported packages interfaces apart es keys types plain;
  functions_apart = λ k i s at x f has other text. (let e = under packages interfaces apart es keys types plain k i s at x (item.Function f) has other text in cc);
  types_apart = λ k i s at to x id has other text. (let e = under packages interfaces apart es keys types plain k i s at x (item.TypeItem id to) has other text in cc);
}
