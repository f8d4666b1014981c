-- What is linked.
use Rattle.std.proofs.Common.{◌≡◌, ◌↔◌, ℕ, Bool, true, false, List, [], ◌∷◌, length, Any, String, Option, Some, None, map, slice_get, refl, sym, ap, subst, ◌∙◌}
use Rattle.std.proofs.lemmas.Option.{same_Some}
use Rattle.std.specs.declared.alloc.Global.{Global}
use Rattle.component_session.specs.Handed.{pairs_of}
use Rattle.std.specs.Prelude.{option_and_then, option_map, if◌then◌else◌}
use Rattle.indexmap.specs.IndexMap.{values}
use Rattle.plain_imports.specs.Imports.{IsBeyond, names_of}
use Rattle.plain_worlds.specs.World.{WorldMeaning, plain_world, if_so, world_fits, with_exports, each_of, item_of, function_item}
use Rattle.plain_worlds.specs.declared.world.Function.{Function}
use Rattle.wasm_format.specs.Module.{ModuleValue}
use Rattle.wasm_format.specs.Grammar.{IsModule}
use Rattle.wasm_format.proofs.Modules.{one_module}
use Rattle.wasm_types.specs.Entries.{import_value}
use Rattle.wasm_types.specs.declared.entries.Import.{Import}
use Rattle.wit_core_names.specs.Texts.{Known}
use Rattle.text_graphs.specs.Passed.wit_resolution-Names.{known_of}
use Rattle.wit_types.specs.declared.world.World.{World}
use Rattle.wit_component.specs.Linking.{reading}
use Rattle.wit_component.proofs.Readings.{reading_is}
use Rattle.handed_modules.specs.Modules.{ModuleInput}
use Rattle.component_session.specs.Input.{Input, main_in, world_at, worlds_of}
use Rattle.component_session.specs.Refusals.{ImportsBeyond, IsWide}

-- a plain world fits
so_fits : {A : Type 0} (p : A → Bool) (o : Option A) (x : A) → if_so p o ≡ Some x → p x ≡ true
so_fits p None x e = absurd cc
so_fits p (Some y) x e = by_test (p y) refl e
  where
    by_test : (b : Bool) → p y ≡ b → (if b then Some y else None) ≡ Some x → p x ≡ true
    by_test true is same = let here : y ≡ x = cc in ap p (sym here) ∙ is
    by_test false is same = absurd cc

pub plain_fits : (w : World) (m : WorldMeaning) → plain_world w ≡ Some m → world_fits m ≡ true
plain_fits w m e = so_fits world_fits (option_map (with_exports w) (each_of item_of (values w.exports))) m e

-- ---- what stands in the way

module _ (input : Input) (w : ℕ) (plain : WorldMeaning) (handed : ModuleInput) (core : ModuleValue) where
  abbrev Beyond : World → WorldMeaning → ModuleValue → Type 0
  Beyond v p m = Any (IsBeyond (known_of input.resolved.graph.tables) v (names_of p.imports)) m.imports

  pub no_imports : input.world ≡ Some w → world_at input w ≡ Some plain → main_in input ≡ Some handed → IsModule handed.bytes core
      → ((v : World) → slice_get (worlds_of input.resolved) w ≡ Some v → Beyond v plain core → ⊥) → ImportsBeyond input → ⊥
  no_imports chooses world hands reads none h =
      let chosen : w ≡ h.chosen = same_Some w h.chosen (sym chooses ∙ h.chooses) in
      let at : slice_get (worlds_of input.resolved) w ≡ Some h.world = ap (slice_get (worlds_of input.resolved)) chosen ∙ h.world_is in
      let same : plain ≡ h.plain = same_Some plain h.plain (sym world ∙ (ap (option_and_then plain_world) at ∙ h.plain_is)) in
      let given : handed ≡ h.handed = same_Some handed h.handed (sym hands ∙ h.hands) in
      let one : core ≡ h.core = one_module h.handed.bytes core h.core (subst (λ (x : ModuleInput). IsModule x.bytes core) given reads) h.reads in
      none h.world at (subst (λ (p : WorldMeaning). Beyond h.world p core) (sym same) (subst (λ (m : ModuleValue). Beyond h.world h.plain m) (sym one) h.beyond))

  pub imports_beyond : (v : World) → input.world ≡ Some w → world_at input w ≡ Some plain → main_in input ≡ Some handed → IsModule handed.bytes core
      → slice_get (worlds_of input.resolved) w ≡ Some v → Beyond v plain core → ImportsBeyond input
  imports_beyond v chooses world hands reads at beyond = record {
    chosen = w;
    world = v;
    plain = plain;
    handed = handed;
    core = core;
    chooses = chooses;
    world_is = at;
    plain_is = sym (ap (option_and_then plain_world) at) ∙ world;
    hands = hands;
    reads = reads;
    beyond = beyond;
  }

  pub not_wide : input.world ≡ Some w → world_at input w ≡ Some plain → (ImportsBeyond input → ⊥) → IsWide input → ⊥
  not_wide chooses world none (IsWide.by_world k chosen other) =
      let same : k ≡ w = same_Some k w (sym chosen ∙ chooses) in
      let bad : None ≡ Some plain = sym other ∙ (ap (world_at input) same ∙ world) in
      absurd cc
  not_wide chooses world none (IsWide.by_import h) = none h

-- core imports by what was read
pub beyond_moved : (k k2 : Known) (w w2 : World) (fs fs2 : List Function) (is is2 : List Import) → k ≡ k2 → w ≡ w2 → fs ≡ fs2 → is ≡ is2
    → Any (IsBeyond k w (names_of (map function_item fs))) (map import_value is) → Any (IsBeyond k2 w2 (names_of (map function_item fs2))) (map import_value is2)
beyond_moved k k2 w w2 fs fs2 is is2 a b c d h =
    subst (λ (x : List Import). Any (IsBeyond k2 w2 (names_of (map function_item fs2))) (map import_value x)) d
    (subst (λ (x : List Function). Any (IsBeyond k2 w2 (names_of (map function_item x))) (map import_value is)) c
    (subst (λ (x : World). Any (IsBeyond k2 x (names_of (map function_item fs))) (map import_value is)) b
    (subst (λ (x : Known). Any (IsBeyond x w (names_of (map function_item fs))) (map import_value is)) a h)))

-- a module is what its bytes are read as
pub read_is : (bytes : List ℕ) (m : ModuleValue) → IsModule bytes m → reading bytes ≡ Some m
read_is bytes m h = reading_is bytes m h

-- what isn't something is nothing
pub none_plain : {X : Type 0} (o : Option X) → ((x : X) → o ≡ Some x → ⊥) → o ≡ None
none_plain None never = refl
none_plain (Some x) never = absurd (never x refl)

-- a map with entries isn't empty
pub some_pairs : (es : List (String Global × String Global)) → pairs_of es ≡ [] → (empty : Bool) → (empty ≡ true ↔ (length es ≡ 0)) → empty ≡ false → ⊥
some_pairs [] none empty when is = (let yes : empty ≡ true = when.1 refl in let bad : true ≡ false = sym yes ∙ is in absurd cc)
some_pairs (e ∷ es) none empty when is = absurd cc
