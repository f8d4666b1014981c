-- What stays of a package says where it stands what the package says.
use Rattle.std.proofs.Common.{◌≡◌, ℕ, ◌+◌, suc, Bool, List, [], ◌∷◌, ◌++◌, Option, String, refl, sym, ap, ◌∙◌, map, flat_map, length, arith, append_assoc, append-nil}
use Rattle.std.specs.Prelude.{if◌then◌else◌, string_bytes}
use Rattle.std.specs.declared.alloc.Global.{Global}
use Rattle.wit_words.specs.declared.source_map.Span.{Span}
use Rattle.wit_types.specs.declared.interface.Interface.{Interface}
use Rattle.wit_types.specs.declared.interface.TypeDef.{TypeDef}
use Rattle.wit_types.specs.declared.function.Function.{Function}
use Rattle.wit_types.specs.declared.world.World.{World}
use Rattle.wit_types.specs.declared.world.WorldInclude.{WorldInclude}
use Rattle.wit_types.specs.declared.world.WorldItem.{WorldItem}
use Rattle.wit_types.specs.declared.world_key.WorldKey.{WorldKey}
use Rattle.wit_types.specs.WorldKey.{known}
use Rattle.wit_features.specs.Features.{FeatureSet}
use Rattle.wit_moves.specs.Moved.{Places, is_placed, to, IsMovedFunction}
use Rattle.wit_moves.specs.Interfaces.{AreKept, no_entries, one_goes, one_stays, function_stays, IsMovedInterface}
use Rattle.wit_moves.specs.Plan.{OwnerPlaces, moved_owner, AreMovedDefs, no_defs, left_out, moved}
use Rattle.wit_moves.specs.Worlds.{item_stays, moved_key, moved_entry, IsMovedItem, IsMovedSide}
use Rattle.wit_plans.specs.Checks.{Standing}
use Rattle.wit_plans.specs.Moves.{AreMovedInterfaces, no_interfaces, interface_goes, interface_stays, IsMovedWorld, AreMovedWorlds, no_worlds, world_goes, world_stays}
use Rattle.wit_plans.specs.declared.moves.MovedWorld.{MovedWorld}
use Rattle.wit_push_causes.specs.Said.{Text, SaidStability, SaidType, SaidInterface, SaidEntry, docs_said, stability_said, names_said, type_said, function_said, interface_said, item_said, entry_said}
use Rattle.wit_push_causes.proofs.Lists.{map_append, map_twice}
use Rattle.wit_push_causes.proofs.Forms.{moved_type, moved_type_said, moved_function, moved_function_said, moved_item, moved_item_said}

-- ---- types

module _ (owners : OwnerPlaces) (places : Places) where
  abbrev def_said : ℕ → TypeDef → List SaidType
  def_said n d = if is_placed places n then moved_type (to places) (moved_owner owners d.owner) (type_said d) ∷ [] else []

  abbrev defs_said : ℕ → List TypeDef → List SaidType
  defs_said n [] = []
  defs_said n (d ∷ ds) = def_said n d ++ defs_said (suc n) ds

  one_last : (n : ℕ) (ds : List TypeDef) (d : TypeDef) → defs_said n (ds ++ d ∷ []) ≡ defs_said n ds ++ def_said (n + length ds) d
  one_last n [] d = append-nil (def_said n d) ∙ ap (λ (m : ℕ). def_said m d) (let e : n ≡ n + 0 = omega arith in e)
  one_last n (e ∷ ds) d =
      ap (λ (l : List SaidType). def_said n e ++ l) (one_last (suc n) ds d)
      ∙ ap (λ (m : ℕ). def_said n e ++ (defs_said (suc n) ds ++ def_said m d)) (let same : suc n + length ds ≡ n + suc (length ds) = omega arith in same)
      ∙ sym (append_assoc (def_said n e) (defs_said (suc n) ds) (def_said (n + suc (length ds)) d))

  here : (b : Bool) (ts : List SaidType) → List SaidType
  here b ts = if b then ts else []

  moved_defs_said : (first : ℕ) (ds es : List TypeDef) → AreMovedDefs owners places first ds es → map type_said es ≡ defs_said first ds
  moved_defs_said first _ _ no_defs = refl
  moved_defs_said first _ _ (left_out ds es d before out) =
      moved_defs_said first ds es before
      ∙ sym (one_last first ds d ∙ ap (λ (b : Bool). defs_said first ds ++ (if b then moved_type (to places) (moved_owner owners d.owner) (type_said d) ∷ [] else [])) out ∙ append-nil (defs_said first ds))
  moved_defs_said first _ _ (moved ds es d e before stands is) =
      map_append type_said es (e ∷ [])
      ∙ ap (λ (l : List SaidType). l ++ type_said e ∷ []) (moved_defs_said first ds es before)
      ∙ ap (λ (t : SaidType). defs_said first ds ++ t ∷ []) (moved_type_said (to places) (moved_owner owners d.owner) d e is)
      ∙ sym (one_last first ds d ∙ ap (λ (b : Bool). defs_said first ds ++ (if b then moved_type (to places) (moved_owner owners d.owner) (type_said d) ∷ [] else [])) stands)

  pub defs_same : (first : ℕ) (ds es fs : List TypeDef) → AreMovedDefs owners places first ds es → AreMovedDefs owners places first ds fs → map type_said es ≡ map type_said fs
  defs_same first ds es fs a b = moved_defs_said first ds es a ∙ sym (moved_defs_said first ds fs b)

-- ---- entries that stay

module _ {K V KS VS : Type 0} (goes_on : V → Bool) (changes : V → V → Type 0) (k : K → KS) (s : V → VS) (m : V → VS) (is : (v w : V) → changes v w → s w ≡ m v) where
  abbrev said : K × V → KS × VS
  said e = (k e.0, s e.1)

  abbrev one_said : K × V → List (KS × VS)
  one_said e = if goes_on e.1 then (k e.0, m e.1) ∷ [] else []

  kept_said : (es fs : List (K × V)) → AreKept goes_on changes es fs → map said fs ≡ flat_map one_said es
  kept_said _ _ no_entries = refl
  kept_said _ _ (one_goes x v es fs out more) = rw out (kept_said es fs more)
  kept_said _ _ (one_stays x v w es fs stands change more) =
      ap (λ (y : VS). (k x, y) ∷ map said fs) (is v w change)
      ∙ ap (λ (l : List (KS × VS)). (k x, m v) ∷ l) (kept_said es fs more)
      ∙ sym (ap (λ (b : Bool). (if b then (k x, m v) ∷ [] else []) ++ flat_map one_said es) stands)

  pub kept_same : (es fs gs : List (K × V)) → AreKept goes_on changes es fs → AreKept goes_on changes es gs → map said fs ≡ map said gs
  kept_same es fs gs a b = kept_said es fs a ∙ sym (kept_said es gs b)

-- ---- interfaces

module _ (features : FeatureSet) (places : Places) (owner : ℕ) where
  interface_same : (d e f : Interface) → IsMovedInterface features places owner d e → IsMovedInterface features places owner d f → interface_said e ≡ interface_said f
  interface_same d e f a b =
      let types : names_said e.types.entries ≡ names_said f.types.entries =
      kept_same (is_placed places) (λ (i j : ℕ). j ≡ to places i) (λ (x : String Global). string_bytes x) (λ (i : ℕ). i) (to places) (λ i j h. h) d.types.entries e.types.entries f.types.entries a.types b.types in
      let functions : map (λ (x : String Global × Function). (string_bytes x.0, function_said x.1)) e.functions.entries ≡ map (λ (x : String Global × Function). (string_bytes x.0, function_said x.1)) f.functions.entries =
      kept_same (function_stays features places) (IsMovedFunction (to places)) (λ (x : String Global). string_bytes x) function_said (λ (g : Function). moved_function (to places) (function_said g)) (moved_function_said (to places))
      d.functions.entries e.functions.entries f.functions.entries a.functions b.functions in
      rw (a.name, b.name, types, functions, a.docs, b.docs, a.stability, b.stability, a.owner_is, b.owner_is, a.span, b.span) refl

module _ (features : FeatureSet) (s : Standing) (owner : ℕ) where
  pub interfaces_same : (ds es fs : List Interface) → AreMovedInterfaces features s owner ds es → AreMovedInterfaces features s owner ds fs → map interface_said es ≡ map interface_said fs
  interfaces_same _ _ _ no_interfaces no_interfaces = refl
  interfaces_same _ _ _ (interface_goes d ds es out a) (interface_goes _ _ fs _ b) = interfaces_same ds es fs a b
  interfaces_same _ _ _ (interface_goes d ds es out a) (interface_stays _ f _ fs stands _ _) = absurd cc
  interfaces_same _ _ _ (interface_stays d e ds es stands is a) (interface_goes _ _ fs out b) = absurd cc
  interfaces_same _ _ _ (interface_stays d e ds es stands is a) (interface_stays _ f _ fs _ also b) =
      ap (λ (x : SaidInterface). x ∷ map interface_said es) (interface_same features s.types owner d e f is also)
      ∙ ap (λ (l : List SaidInterface). interface_said f ∷ l) (interfaces_same ds es fs a b)

-- ---- worlds

-- what a world that stays says, and what it includes
pub record SaidMoved : Type 0 where
  pub name : Text
  pub imports : List SaidEntry
  pub exports : List SaidEntry
  pub docs : Option Text
  pub stability : SaidStability
  pub includes : List WorldInclude
  pub span : Span

abbrev pub moved_world_said : MovedWorld → SaidMoved
moved_world_said m = record {
  name = string_bytes m.name;
  imports = map entry_said m.imports.items;
  exports = map entry_said m.exports.items;
  docs = docs_said m.docs;
  stability = stability_said m.stability;
  includes = m.includes.items;
  span = m.span;
}

module _ (features : FeatureSet) (s : Standing) where
  side_said : (kept new : List (WorldKey × WorldItem)) → new ≡ map (moved_entry (to s.interfaces)) kept → map entry_said new ≡ map (λ (e : WorldKey × WorldItem). (known (moved_key (to s.interfaces) e.0), item_said e.1)) kept
  side_said kept new e = ap (map entry_said) e ∙ map_twice (moved_entry (to s.interfaces)) entry_said kept

  side_same : (es fs gs : List (WorldKey × WorldItem)) → IsMovedSide features s.types s.interfaces es fs → IsMovedSide features s.types s.interfaces es gs → map entry_said fs ≡ map entry_said gs
  side_same es fs gs a b =
      side_said a.0 fs a.2
      ∙ kept_same (item_stays features s.types) (IsMovedItem (to s.types) (to s.interfaces)) (λ (k : WorldKey). known (moved_key (to s.interfaces) k)) item_said
      (λ (i : WorldItem). moved_item (to s.types) (to s.interfaces) (item_said i)) (moved_item_said (to s.types) (to s.interfaces)) es a.0 b.0 a.1 b.1
      ∙ sym (side_said b.0 gs b.2)

  moved_world_same : (w : World) (m n : MovedWorld) → IsMovedWorld features s w m → IsMovedWorld features s w n → moved_world_said m ≡ moved_world_said n
  moved_world_same w m n a b =
      let imports : map entry_said m.imports.items ≡ map entry_said n.imports.items = side_same w.imports.entries m.imports.items n.imports.items a.imports b.imports in
      let exports : map entry_said m.exports.items ≡ map entry_said n.exports.items = side_same w.exports.entries m.exports.items n.exports.items a.exports b.exports in
      rw (a.name, b.name, imports, exports, a.docs, b.docs, a.stability, b.stability, a.includes, b.includes, a.span, b.span) refl

  pub worlds_same : (ws : List World) (ms ns : List MovedWorld) → AreMovedWorlds features s ws ms → AreMovedWorlds features s ws ns → map moved_world_said ms ≡ map moved_world_said ns
  worlds_same _ _ _ no_worlds no_worlds = refl
  worlds_same _ _ _ (world_goes w ws ms out a) (world_goes _ _ ns _ b) = worlds_same ws ms ns a b
  worlds_same _ _ _ (world_goes w ws ms out a) (world_stays _ n _ ns stands _ _) = absurd cc
  worlds_same _ _ _ (world_stays w m ws ms stands is a) (world_goes _ _ ns out b) = absurd cc
  worlds_same _ _ _ (world_stays w m ws ms stands is a) (world_stays _ n _ ns _ also b) =
      ap (λ (x : SaidMoved). x ∷ map moved_world_said ms) (moved_world_same w m n is also)
      ∙ ap (λ (l : List SaidMoved). moved_world_said n ∷ l) (worlds_same ws ms ns a b)
