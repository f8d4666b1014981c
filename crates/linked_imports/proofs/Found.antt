-- What is found at a place of a world is what a core import stands for there.
use Rattle.std.proofs.Common.{◌≡◌, ℕ, ◌+◌, ◌<◌, true, false, List, [], ◌∷◌, ◌++◌, length, take, Option, Some, None, String, inl, inr, sym, subst, ap, ◌∙◌}
use Rattle.std.proofs.lemmas.Grind.{flat_map-append}
use Rattle.std.proofs.lemmas.List.{append-nil}
use Rattle.std.proofs.lemmas.Option.{same_Some}
use Rattle.std.specs.List.{IsDistinct, AllByRecursion as Each}
use Rattle.std.specs.Map.{keys_of}
use Rattle.std.specs.Prelude.{slice_get, option_map, option_and_then, option_to_list}
use Rattle.std.specs.declared.alloc.Global.{Global}
use Rattle.wit_order.specs.Order.{Has}
use Rattle.wit_reach.proofs.Holding.{got}
use Rattle.wit_words.specs.declared.source_map.Span.{Span}
use Rattle.wit_types.specs.WorldKey.{key_eq, key_eq-equivalence}
use Rattle.wit_types.specs.declared.function.Function.{Function}
use Rattle.wit_types.specs.declared.interface.Interface.{Interface}
use Rattle.wit_types.specs.declared.stability.Stability.{Stability}
use Rattle.wit_types.specs.declared.world.WorldItem.{WorldItem}
use Rattle.wit_types.specs.declared.world.WorldItem.TheVariants as item
use Rattle.wit_types.specs.declared.world_key.WorldKey.{WorldKey}
use Rattle.linked_types.proofs.Walks.{has_at}
use Rattle.wit_core_items.specs.ImportPlaces.{import_of_function, interface_import}
use Rattle.wit_core_items.specs.Places.{function_of}
use Rattle.wit_core_names.specs.Items.{CoreImport}
use Rattle.core_links.specs.Names.{Names}
use Rattle.core_links.specs.Needed.{IsKeyOf}
use Rattle.right_components.specs.Passed.link_table-Linking.{function_at, functions_at}
use Rattle.right_components.proofs.Passed.link_table-Walks.{take_step}
use Rattle.linked_imports.specs.Roots.{IsInterfaceOf}

abbrev Entry : Type 0
Entry = WorldKey × WorldItem

-- ---- functions that are exported

-- where there is none at a place, there are as many up to it and with it
pub none_next : (es : List Entry) (k : ℕ) → k < length es → None ≡ option_and_then (λ (e : Entry). function_at e.1) (slice_get es k) → functions_at (take (k + 1) es) ≡ functions_at (take k es)
none_next es k within found =
    let (e, at) = got es k within in
    let none : function_at e.1 ≡ None = sym (found ∙ ap (option_and_then (λ (d : Entry). function_at d.1)) at) in
    ap functions_at (take_step es k e at) ∙ flat_map-append (λ (d : Entry). option_to_list (function_at d.1)) (take k es) (e ∷ [])
    ∙ ap (λ (o : Option Function). functions_at (take k es) ++ (option_to_list o ++ [])) none ∙ append-nil (functions_at (take k es))

-- ---- keys

others_apart : (es : List Entry) (k key : WorldKey) (a : WorldItem) → Each (λ (other : WorldKey). key_eq k other ≡ false) (keys_of es) → Has es (key, a) → key_eq k key ≡ false
others_apart [] k key a all h = absurd h
others_apart (e ∷ es) k key a all (inl is) = ap (λ (x : Entry). key_eq k x.0) is ∙ all.0
others_apart (e ∷ es) k key a all (inr h) = others_apart es k key a all.1 h

first_apart : (e : Entry) (es : List Entry) (key : WorldKey) (a b : WorldItem) → Each (λ (other : WorldKey). key_eq e.0 other ≡ false) (keys_of es) → (key, a) ≡ e → Has es (key, b) → ⊥
first_apart e es key a b all is h =
    let no : key_eq key key ≡ false = ap (λ (x : Entry). key_eq x.0 key) is ∙ others_apart es e.0 key b all h in
    let yes : key_eq key key ≡ true = key_eq-equivalence.refl key in
    absurd (let bad : true ≡ false = sym yes ∙ no in cc)

-- where keys differ there is one item of a key
pub one_item : (es : List Entry) (key : WorldKey) (a b : WorldItem) → IsDistinct key_eq (keys_of es) → Has es (key, a) → Has es (key, b) → a ≡ b
unfolding IsDistinct
one_item [] key a b apart h k = absurd h
one_item (e ∷ es) key a b apart (inl is) (inl too) = ap (λ (x : Entry). x.1) (is ∙ sym too)
one_item (e ∷ es) key a b apart (inl is) (inr k) = absurd (first_apart e es key a b apart.0 is k)
one_item (e ∷ es) key a b apart (inr h) (inl is) = absurd (first_apart e es key b a apart.0 is h)
one_item (e ∷ es) key a b apart (inr h) (inr k) = one_item es key a b apart.1 h k

-- ---- functions of interfaces

pub found_in_interface : (n : Names) (entry j : ℕ) (own : WorldKey) (id : ℕ) (stability : Stability) (span : Span) (d : Interface) (g : Function) → IsDistinct key_eq (keys_of n.world.imports.entries)
    → slice_get n.world.imports.entries entry ≡ Some (own, item.Interface id stability span) → slice_get n.known.interfaces id ≡ Some d → option_map (λ (e : String Global × Function). e.1) (slice_get d.functions.entries j) ≡ Some g
    → (key : Option WorldKey) (f : Function) → interface_import n.known j (slice_get n.world.imports.entries entry) ≡ Some (CoreImport.func key f) → IsInterfaceOf n key (Some id) × (g ≡ f)
found_in_interface n entry j own id stability span d g apart at there has key f found =
    let here : Has n.world.imports.entries (own, item.Interface id stability span) = has_at n.world.imports.entries entry (own, item.Interface id stability span) at in
    let import : interface_import n.known j (slice_get n.world.imports.entries entry) ≡ Some (CoreImport.func (Some own) g) =
    ap (interface_import n.known j) at ∙ ap (λ (o : Option Interface). import_of_function (Some own) (function_of o j)) there ∙ ap (import_of_function (Some own)) has in
    let both : CoreImport.func (Some own) g ≡ CoreImport.func key f = same_Some (CoreImport.func (Some own) g) (CoreImport.func key f) (sym import ∙ found) in
    let keys : Some own ≡ key = cc in
    let functions : g ≡ f = cc in
    let only : (k : ℕ) → IsKeyOf n own k → k ≡ id = λ k is.
    (let one : item.Interface k is.0 is.1 ≡ item.Interface id stability span = one_item n.world.imports.entries own (item.Interface k is.0 is.1) (item.Interface id stability span) apart is.2 here in cc) in
    (subst (λ (o : Option WorldKey). IsInterfaceOf n o (Some id)) keys ((stability, span, here), only), functions)
