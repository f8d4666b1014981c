-- Copies, and sides that are joined, have the same names.
use Rattle.std.proofs.Common.{◌≡◌, ℕ, Bool, true, false, List, [], ◌∷◌, ◌++◌, Option, Some, None, String, map, refl, sym, subst, ap, ◌∙◌}
use Rattle.std.specs.Prelude.{slice_get, string_bytes}
use Rattle.std.specs.List.{AllByRecursion as Each, AllZip}
use Rattle.std.specs.declared.alloc.Global.{Global}
use Rattle.distinct_names.specs.Names.{all_new}
use Rattle.wit_joined.specs.Passed.wit_types-declared-function-Function.{Function}
use Rattle.wit_joined.specs.Passed.wit_types-declared-function-Param.{Param}
use Rattle.wit_joined.specs.Passed.wit_types-declared-kind-Case.{Case}
use Rattle.wit_joined.specs.Passed.wit_types-declared-kind-Field.{Field}
use Rattle.wit_joined.specs.Passed.wit_types-declared-kind-TypeDefKind.{TypeDefKind}
use Rattle.wit_joined.specs.Passed.wit_types-declared-interface-TypeDef.{TypeDef}
use Rattle.wit_joined.specs.Passed.wit_types-declared-world-IncludeName.{IncludeName}
use Rattle.wit_joined.specs.Passed.wit_types-declared-world-World.{World}
use Rattle.wit_joined.specs.Passed.wit_types-declared-world-WorldInclude.{WorldInclude}
use Rattle.wit_joined.specs.Passed.wit_types-declared-world-WorldItem.{WorldItem}
use Rattle.wit_joined.specs.Passed.wit_types-declared-world-WorldItem-TheVariants as item
use Rattle.wit_joined.specs.Passed.wit_types-declared-world_key-WorldKey.{WorldKey}
use Rattle.wit_joined.specs.Passed.wit_types-WorldKey.{key_eq}
use Rattle.wit_joined.specs.Passed.wit_moves-Moved as moves
use Rattle.wit_joined.specs.Passed.wit_moves-Moved.{moved_param, IsMovedKind}
use Rattle.wit_joined.specs.Passed.wit_moves-Worlds as worlds
use Rattle.wit_joined.specs.Passed.wit_copies-Copies.{Copies, goes, IsCopiedDef, AreCopied, no_types, one_more, IsCopiedItem, AreCopiedEntries, no_entries, one_entry_more}
use Rattle.wit_joined.specs.Passed.wit_copies-Same as copy
use Rattle.wit_joined.specs.Passed.wit_copies-Same.{IsSameKind, IsSameFunction}
use Rattle.wit_joined.proofs.Passed.wit_copied_trees-Clones.{field_names, case_names, param_names, flag_names, enum_names}
use Rattle.wit_joined.specs.Passed.wit_sides-Renames as renamed
use Rattle.wit_joined.specs.Passed.wit_sides-Renames.{IsRenamedItem, AreRenamed}
use Rattle.wit_joined.specs.Passed.wit_sides-Sides as side
use Rattle.wit_joined.specs.Passed.wit_sides-Sides.{AreUnited}
use Rattle.wit_joined.specs.Passed.wit_includes-Included as brings
use Rattle.wit_joined.specs.Passed.wit_includes-Included.{is_of_world, IsRenamedName, AreRenamedDefs, copies_behind, AreIncludedEntries, IsIncluded}
use Rattle.wit_joined.specs.Passed.wit_includes-declared-worlds-Included.{Included}
use Rattle.wit_joined.specs.Joined.{State, Includes, includes_none, includes_one}
use Rattle.wit_labels.specs.Labels.{labels_of, HasLabelsApart, AreLabelsApart, HasParametersApart, IsItemApart, IsSideApart, IsWorldApart}
use Rattle.wit_labels.specs.Moved.{IsMovedWorldApart}
use Rattle.wit_labels.specs.Included.{IsBroughtApart, BroughtIsApart, JoinedWorldsAreApart}
use Rattle.wit_labels.proofs.Every.{each_join, each_front, each_behind, each_at}

abbrev Entry : Type 0
Entry = WorldKey × WorldItem

abbrev IsTypeApart : TypeDef → Type 0
IsTypeApart d = HasLabelsApart d.kind

abbrev IsEntryApart : Entry → Type 0
IsEntryApart e = IsItemApart e.1

-- ---- types

labels_copied : (f : ℕ → ℕ) (k m l : TypeDefKind) → IsSameKind k m → IsMovedKind f m l → labels_of l ≡ labels_of k
labels_copied f _ _ _ (copy.same_record r s zip) (moves.moved_record _ t e) = ap (map (λ (x : Field). string_bytes x.name)) e ∙ field_names f r.fields.items s.fields.items zip
labels_copied f _ _ _ copy.same_resource moves.moved_resource = refl
labels_copied f _ _ _ (copy.same_handle h) (moves.moved_handle_kind _) = refl
labels_copied f _ _ _ (copy.same_flags x y zip) (moves.moved_flags _) = flag_names x.flags.items y.flags.items zip
labels_copied f _ _ _ (copy.same_tuple t u e) (moves.moved_tuple _ v g) = refl
labels_copied f _ _ _ (copy.same_variant v w zip) (moves.moved_variant _ u e) = ap (map (λ (x : Case). string_bytes x.name)) e ∙ case_names f v.cases.items w.cases.items zip
labels_copied f _ _ _ (copy.same_enum d e zip) (moves.moved_enum _) = enum_names d.cases.items e.cases.items zip
labels_copied f _ _ _ (copy.same_option r) (moves.moved_option _) = refl
labels_copied f _ _ _ (copy.same_result r) (moves.moved_result _) = refl
labels_copied f _ _ _ (copy.same_list r) (moves.moved_list _) = refl
labels_copied f _ _ _ (copy.same_fixed_length_list r n) (moves.moved_fixed_length_list _ _) = refl
labels_copied f _ _ _ (copy.same_future p) (moves.moved_future _) = refl
labels_copied f _ _ _ (copy.same_stream p) (moves.moved_stream _) = refl
labels_copied f _ _ _ (copy.same_alias r) (moves.moved_alias _) = refl
labels_copied f _ _ _ copy.same_unknown_kind moves.moved_unknown = refl

types_copied : (c : Copies) (from into : ℕ) (types : List TypeDef) (ids : List ℕ) (copied : List TypeDef) → AreCopied c from into types ids copied → AreLabelsApart types → AreLabelsApart copied
types_copied c from into types _ _ no_types h = tt
types_copied c from into types _ _ (one_more i d e is es at (clone, same, is_moved) more) h =
    (ap (all_new []) (labels_copied (goes c) d.kind clone.kind e.kind same.kind is_moved.kind) ∙ each_at IsTypeApart types h i d at, types_copied c from into types is es more h)

-- a changed name of a type changes nothing in it
renamed_kind : (names : List IncludeName) (b : Bool) (d : TypeDef) (x : Option (String Global)) (e : TypeDef) → IsRenamedName names b d x e → e.kind ≡ d.kind
renamed_kind names true d (Some x) e h = ap (λ (t : TypeDef). t.kind) h.2
renamed_kind names true d None e h = ap (λ (t : TypeDef). t.kind) h
renamed_kind names false d x e h = ap (λ (t : TypeDef). t.kind) h

types_renamed : (names : List IncludeName) (w : ℕ) (ds es : List TypeDef) → AreRenamedDefs names w ds es → AreLabelsApart ds → AreLabelsApart es
types_renamed names w _ _ brings.no_types h = tt
types_renamed names w _ _ (brings.one_more d e ds es one more) h =
    (subst HasLabelsApart (sym (renamed_kind names (is_of_world w d.owner) d d.name e one)) h.0, types_renamed names w ds es more h.1)

-- ---- sides

function_copied : (f : ℕ → ℕ) (old clone new : Function) → IsSameFunction old clone → moves.IsMovedFunction f clone new → HasParametersApart old → HasParametersApart new
function_copied f old clone new same is h =
    ap (all_new []) (ap (map (λ (p : Param). string_bytes p.name)) is.params ∙ param_names f old.params.items clone.params.items same.params) ∙ h

item_copied : (types interfaces : ℕ → ℕ) (x y z : WorldItem) → copy.IsSameItem x y → worlds.IsMovedItem types interfaces y z → IsItemApart x → IsItemApart z
item_copied types interfaces _ _ _ (copy.same_interface id s t span _) (worlds.moved_interface _ _ _) h = tt
item_copied types interfaces _ _ _ (copy.same_function f g same) (worlds.moved_function _ k is) h = function_copied types f g k same is h
item_copied types interfaces _ _ _ (copy.same_type id span) (worlds.moved_type _ _) h = tt

entries_copied : (c : Copies) (es fs : List Entry) → AreCopiedEntries c es fs → IsSideApart es → IsSideApart fs
entries_copied c _ _ no_entries h = tt
entries_copied c _ _ (one_entry_more k l i j es fs same (clone, as_it, is) more) h = (item_copied (goes c) (λ (n : ℕ). n) i clone j as_it is h.0, entries_copied c es fs more h.1)

item_renamed : (names : List IncludeName) (x y : WorldItem) → IsRenamedItem names x y → IsItemApart x → IsItemApart y
item_renamed names (item.Function f) y h a = subst IsItemApart (sym h.1) a
item_renamed names (item.Interface id stability span) y h a = subst IsItemApart (sym h) tt
item_renamed names (item.TypeItem id span) y h a = subst IsItemApart (sym h) tt

entries_renamed : (names : List IncludeName) (es fs : List Entry) → AreRenamed names es fs → IsSideApart es → IsSideApart fs
entries_renamed names _ _ renamed.no_entries h = tt
entries_renamed names _ _ (renamed.one_more k l i j es fs key one more) h = (item_renamed names i j one h.0, entries_renamed names es fs more h.1)

side_brought : (names : List IncludeName) (c : Copies) (es fs : List Entry) → AreIncludedEntries names c es fs → IsSideApart es → IsSideApart fs
side_brought names c es fs (copied, are, re) h = entries_renamed names copied fs re (entries_copied c es copied are h)

pub brought_apart : BroughtIsApart
brought_apart names from into types world b is h w =
    let x = is.brings in
    let t = x.types_are in
    record {
      types = types_renamed names into t.0 b.types.items t.2 (types_copied (copies_behind types is.own) from into types is.own t.0 t.1 h);
      imports = side_brought names (copies_behind types is.own) world.imports.entries b.imports.items x.imports_are w.imports;
      exports = side_brought names (copies_behind types is.own) world.exports.entries b.exports.items x.exports_are w.exports;
    }

-- ---- joined

side_united : (es fs : List Entry) → AreUnited key_eq es fs → IsSideApart es → IsSideApart fs
side_united _ _ side.no_entries h = tt
side_united _ _ (side.first_of_its_key es fs e more new) h =
    each_join IsEntryApart fs (e ∷ []) (side_united es fs more (each_front IsEntryApart es (e ∷ []) h)) (each_behind IsEntryApart es (e ∷ []) h)
side_united _ _ (side.key_again es fs e more again) h = side_united es fs more (each_front IsEntryApart es (e ∷ []) h)

record IsStateApart (s : State) : Type 0 where
  types : AreLabelsApart s.types
  imports : IsSideApart s.imports
  exports : IsSideApart s.exports

module _ (all : List World) (id : ℕ) (apart : Each IsWorldApart all) where
  includes_apart : (ns : List WorldInclude) (s t : State) → Includes all id ns s t → IsStateApart s → IsStateApart t
  includes_apart _ _ _ (includes_none s) h = h
  includes_apart _ s u (includes_one ns n _ t _ before (w, b, at, is, same)) h =
      let far = includes_apart ns s t before h in
      let brought = brought_apart n.names.items n.id id t.types w b is far.types (each_at IsWorldApart all apart n.id w at) in
      subst IsStateApart (sym same) (record {
        types = each_join IsTypeApart t.types b.types.items far.types brought.types;
        imports = each_join IsEntryApart t.imports b.imports.items far.imports brought.imports;
        exports = each_join IsEntryApart t.exports b.exports.items far.exports brought.exports;
      })

pub joined_worlds : JoinedWorldsAreApart
joined_worlds all id owner m old new w is h apart own =
    let s = is.sides in
    let far = includes_apart all id apart m.includes.items _ s.joined s.includes (record { types = h; imports = own.imports; exports = own.exports }) in
    record {
      types_apart = subst AreLabelsApart (sym s.types_are) far.types;
      world_apart = record {
        imports = side_united s.joined.imports w.imports.entries s.imports_are.entries far.imports;
        exports = side_united s.joined.exports w.exports.entries s.exports_are.entries far.exports;
      };
    }
