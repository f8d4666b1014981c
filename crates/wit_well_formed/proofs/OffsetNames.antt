-- Names of a package are the same wherever its places are.
use Rattle.std.proofs.Common.{◌≡◌, ℕ, List, [], ◌∷◌, inl, inr, length, drop, Some, String, map, refl, sym, subst, ap, ◌∙◌}
use Rattle.std.proofs.lemmas.Option.{slice_get-map}
use Rattle.std.specs.Prelude.{slice_get, option_map, string_bytes}
use Rattle.std.specs.List.{AllByRecursion as Every}
use Rattle.std.specs.declared.alloc.Global.{Global}
use Rattle.distinct_names.specs.Names.{all_new}
use Rattle.wit_order.specs.Order.{Has}
use Rattle.wit_words.specs.declared.source_map.Span.{Span}
use Rattle.wit_types.specs.declared.function.Function.{Function}
use Rattle.wit_types.specs.declared.function.Param.{Param}
use Rattle.wit_types.specs.declared.kind.Case.{Case}
use Rattle.wit_types.specs.declared.kind.EnumCase.{EnumCase}
use Rattle.wit_types.specs.declared.kind.Field.{Field}
use Rattle.wit_types.specs.declared.kind.Flag.{Flag}
use Rattle.wit_types.specs.declared.kind.TypeDefKind.{TypeDefKind}
use Rattle.wit_types.specs.declared.kind.TypeDefKind.TheVariants as kind
use Rattle.wit_types.specs.declared.interface.Interface.{Interface}
use Rattle.wit_types.specs.declared.interface.TypeDef.{TypeDef}
use Rattle.wit_types.specs.declared.«package».UnresolvedPackage.{UnresolvedPackage}
use Rattle.wit_types.specs.declared.world.IncludeName.{IncludeName}
use Rattle.wit_types.specs.declared.world.World.{World}
use Rattle.wit_types.specs.declared.world.WorldInclude.{WorldInclude}
use Rattle.wit_types.specs.declared.world.WorldItem.{WorldItem}
use Rattle.wit_types.specs.declared.world.WorldItem.TheVariants as item
use Rattle.wit_types.specs.declared.world_key.WorldKey.{WorldKey}
use Rattle.wit_types.specs.declared.world_key.WorldKey.TheVariants as key
use Rattle.wit_offsets.specs.Offsets.{param_by, function_by, field_by, case_by, flag_by, enum_case_by, kind_by, type_def_by, interface_by, include_by, item_by, world_by, span_at}
use Rattle.wit_labels.specs.Passed.wit_plain_texts-Plain.{IsPlain}
use Rattle.wit_labels.proofs.Passed.wit_plain_texts-Scopes.{each_map}
use Rattle.wit_labels.specs.Labels.{labels_of, HasLabelsApart, HasParametersApart, HaveParametersApart, functions_in, IsInterfaceApart, IsItemApart, IsSideApart, IsWorldApart}
use Rattle.wit_labels.specs.Types.{IsOwnType, IsOwnItem, HasOwnTypes}
use Rattle.wit_labels.specs.Plain.{ArePlainApart, AreUnderTheirNames, IsWorldUnderItsNames}
use Rattle.wit_graph_parts.specs.Own.{asked}
use Rattle.wit_reach.proofs.Holding.{has_mapped}
use Rattle.wit_package.proofs.Passed.wit_resolved_scopes-Orders.{listed, placed}
use Rattle.wit_well_formed.specs.Naming.{MovedInterfacesAreNamedApart}
use Rattle.wit_well_formed.specs.Within.{MovedPackagesHaveNamesApart}
use Rattle.wit_well_formed.specs.Plain.{MovedWorldsAreUnderTheirNames, AreOwnTypes, MovedWorldsHaveOwnTypes}
use Rattle.wit_well_formed.specs.Marks.{HasPlainSide, HasPlainSides, MovedPackagesHavePlainNames}
use Rattle.wit_well_formed.proofs.Lists.{got_mapped, got_behind}
use Rattle.wit_well_formed.proofs.New.{read_through}
use Rattle.wit_well_formed.proofs.Offsets.{items_are}

abbrev Entry : Type 0
Entry = WorldKey × WorldItem

module _ (f : Span → Span) where
  -- ---- types and functions

  same_labels : (k : TypeDefKind) → labels_of (kind_by f k) ≡ labels_of k
  same_labels (kind.Record r) = ap (map (λ (x : Field). string_bytes x.name)) (items_are (field_by f) r.fields) ∙ read_through (field_by f) (λ (x : Field). string_bytes x.name) r.fields.items
  same_labels kind.Resource = refl
  same_labels (kind.Handle h) = refl
  same_labels (kind.Flags x) = ap (map (λ (l : Flag). string_bytes l.name)) (items_are (flag_by f) x.flags) ∙ read_through (flag_by f) (λ (l : Flag). string_bytes l.name) x.flags.items
  same_labels (kind.Tuple t) = refl
  same_labels (kind.Variant v) = ap (map (λ (c : Case). string_bytes c.name)) (items_are (case_by f) v.cases) ∙ read_through (case_by f) (λ (c : Case). string_bytes c.name) v.cases.items
  same_labels (kind.Enum e) = ap (map (λ (c : EnumCase). string_bytes c.name)) (items_are (enum_case_by f) e.cases) ∙ read_through (enum_case_by f) (λ (c : EnumCase). string_bytes c.name) e.cases.items
  same_labels (kind.Option r) = refl
  same_labels (kind.Result r) = refl
  same_labels (kind.List r) = refl
  same_labels (kind.FixedLengthList r n) = refl
  same_labels (kind.Future p) = refl
  same_labels (kind.Stream p) = refl
  same_labels (kind.Alias r) = refl
  same_labels kind.Unknown = refl

  type_apart : (d : TypeDef) → HasLabelsApart d.kind → HasLabelsApart (type_def_by f d).kind
  type_apart d h = ap (all_new []) (same_labels d.kind) ∙ h

  function_apart : (x : Function) → HasParametersApart x → HasParametersApart (function_by f x)
  function_apart x h =
      ap (all_new []) (ap (map (λ (p : Param). string_bytes p.name)) (items_are (param_by f) x.params) ∙ read_through (param_by f) (λ (p : Param). string_bytes p.name) x.params.items) ∙ h

  functions_apart : (es : List (String Global × Function)) → HaveParametersApart (functions_in es) → HaveParametersApart (functions_in (map (λ (e : String Global × Function). (e.0, function_by f e.1)) es))
  functions_apart [] h = tt
  functions_apart (e ∷ es) h = (function_apart e.1 h.0, functions_apart es h.1)

  item_apart : (x : WorldItem) → IsItemApart x → IsItemApart (item_by f x)
  item_apart (item.Interface id stability span) h = tt
  item_apart (item.Function x) h = function_apart x h
  item_apart (item.TypeItem id span) h = tt

  abbrev entry_by : Entry → Entry
  entry_by e = (e.0, item_by f e.1)

  side_apart : (es : List Entry) → IsSideApart es → IsSideApart (map entry_by es)
  side_apart [] h = tt
  side_apart (e ∷ es) h = (item_apart e.1 h.0, side_apart es h.1)

  world_apart : (w : World) → IsWorldApart w → IsWorldApart (world_by f w)
  world_apart w h = record { imports = side_apart w.imports.entries h.imports; exports = side_apart w.exports.entries h.exports }

  -- ---- plain names

  -- an entry that was
  pub record Was (es : List Entry) (k : WorldKey) (b : WorldItem) : Type 0 where
    pub before : WorldItem
    pub has : Has es (k, before)
    pub is : b ≡ item_by f before

  pub was : (es : List Entry) (k : WorldKey) (b : WorldItem) → Has (map entry_by es) (k, b) → Was es k b
  was es k b h =
      let r = has_mapped entry_by es (k, b) h in
      let keys : r.0.0 ≡ k = ap (λ (e : Entry). e.0) r.2 in
      let items : item_by f r.0.1 ≡ b = ap (λ (e : Entry). e.1) r.2 in
      record { before = r.0.1; has = subst (λ (l : WorldKey). Has es (l, r.0.1)) keys r.1; is = sym items }

  pub plain_apart : (es : List Entry) → ArePlainApart es → ArePlainApart (map entry_by es)
  plain_apart [] h = tt
  plain_apart ((key.Name x, a) ∷ es) h = (λ y b has same. (let o = was es (key.Name y) b has in h.0 y o.before o.has same), plain_apart es h.1)
  plain_apart ((key.Interface i, a) ∷ es) h = plain_apart es h

  pub was_function : (b : WorldItem) (g : Function) → item.Function g ≡ item_by f b → (x : Function) × (b ≡ item.Function x) × (g ≡ function_by f x)
  was_function (item.Function x) g e = (x, refl, (let same : g ≡ function_by f x = cc in same))
  was_function (item.Interface id stability span) g e = absurd cc
  was_function (item.TypeItem id span) g e = absurd cc

  pub was_type : (b : WorldItem) (id : ℕ) (s : Span) → item.TypeItem id s ≡ item_by f b → (t : Span) × (b ≡ item.TypeItem id t)
  was_type (item.Function x) id s e = absurd cc
  was_type (item.Interface i stability span) id s e = absurd cc
  was_type (item.TypeItem i span) id s e = (span, (let same : id ≡ i = cc in ap (λ (j : ℕ). item.TypeItem j span) (sym same)))

  under_names : (types : List TypeDef) (es : List Entry) → AreUnderTheirNames types es → AreUnderTheirNames (map (type_def_by f) types) (map entry_by es)
  under_names types es h = record {
    apart = plain_apart es h.apart;
    functions = λ x g has.
        (let o = was es (key.Name x) (item.Function g) has in
        let y = was_function o.before g o.is in
        ap (λ (z : Function). string_bytes z.name) y.2 ∙ h.functions x y.0 (subst (λ (b : WorldItem). Has es (key.Name x, b)) y.1 o.has));
    types_are = λ x id s has.
        (let o = was es (key.Name x) (item.TypeItem id s) has in
        let y = was_type o.before id s o.is in
        let t = h.types_are x id y.0 (subst (λ (b : WorldItem). Has es (key.Name x, b)) y.1 o.has) in
        (type_def_by f t.0, slice_get-map (type_def_by f) types id ∙ ap (option_map (type_def_by f)) t.1, t.2));
  }

  item_own : (types : List TypeDef) (w : ℕ) (x : String Global) (b : WorldItem) → IsOwnItem types w x b → IsOwnItem (map (type_def_by f) types) w x (item_by f b)
  item_own types w x (item.Interface id stability span) h = tt
  item_own types w x (item.Function g) h = tt
  item_own types w x (item.TypeItem id span) h = record { def = type_def_by f h.def; there = slice_get-map (type_def_by f) types id ∙ ap (option_map (type_def_by f)) h.there; name = h.name; owner = h.owner }

  own_side : (types : List TypeDef) (w : ℕ) (es : List Entry) → HasOwnTypes types w es → HasOwnTypes (map (type_def_by f) types) w (map entry_by es)
  own_side types w [] h = tt
  own_side types w ((key.Name x, b) ∷ es) h = (item_own types w x b h.0, own_side types w es h.1)
  own_side types w ((key.Interface i, b) ∷ es) h = (tt, own_side types w es h.1)

  pub plain_side : (es : List Entry) → HasPlainSide es → HasPlainSide (map entry_by es)
  plain_side es h x b has = (let o = was es (key.Name x) b has in h x o.before o.has)

  plain_sides : (w : World) → HasPlainSides w → HasPlainSides (world_by f w)
  plain_sides w h = record {
    imports = plain_side w.imports.entries h.imports;
    exports = plain_side w.exports.entries h.exports;
    includes = λ i n has_i has_n.
        (let r = has_mapped (include_by f) w.includes.items i (subst (λ (is : List WorldInclude). Has is i) (items_are (include_by f) w.includes) has_i) in
        h.includes r.0 n r.1 (subst (λ (j : WorldInclude). Has j.names.items n) (sym r.2) has_n));
  }

-- ---- packages

pub moved_apart : MovedPackagesHaveNamesApart
moved_apart p n h = record {
  labels = each_map (λ (d : TypeDef). HasLabelsApart d.kind) (λ (d : TypeDef). HasLabelsApart d.kind) (type_def_by (span_at n)) (type_apart (span_at n)) p.types h.labels;
  interfaces_apart = each_map IsInterfaceApart IsInterfaceApart (interface_by (span_at n)) (λ d is. functions_apart (span_at n) d.functions.entries is) p.interfaces h.interfaces_apart;
  worlds_apart = each_map IsWorldApart IsWorldApart (world_by (span_at n)) (world_apart (span_at n)) p.worlds h.worlds_apart;
}

pub moved_under_names : MovedWorldsAreUnderTheirNames
moved_under_names p n h w has =
    let r = has_mapped (world_by (span_at n)) p.worlds w has in
    let is = h r.0 r.1 in
    subst (IsWorldUnderItsNames (map (type_def_by (span_at n)) p.types)) r.2
    (record { imports = under_names (span_at n) p.types r.0.imports.entries is.imports; exports = under_names (span_at n) p.types r.0.exports.entries is.exports })

pub moved_plain : MovedPackagesHavePlainNames
moved_plain p n h = record {
  namespace = h.namespace;
  name = h.name;
  interfaces = λ d x has named.
      (let at = placed (drop (asked p).interfaces (map (interface_by (span_at n)) p.interfaces)) d has in
      let o = got_behind (interface_by (span_at n)) (asked p).interfaces p.interfaces at.0 d at.1 in
      h.interfaces o.0 x (listed (drop (asked p).interfaces p.interfaces) o.0 (at.0, o.1)) (ap (λ (z : Interface). z.name) o.2 ∙ named));
  worlds = λ w has. (let r = has_mapped (world_by (span_at n)) p.worlds w has in subst HasPlainSides r.2 (plain_sides (span_at n) r.0 (h.worlds r.0 r.1)));
}

pub moved_own_types : MovedWorldsHaveOwnTypes
moved_own_types p n h i w at =
    let o = got_mapped (world_by (span_at n)) p.worlds i w at in
    let is = h i o.0 o.1 in
    subst (AreOwnTypes (map (type_def_by (span_at n)) p.types) i) o.2
    (record { imports = own_side (span_at n) p.types i o.0.imports.entries is.imports; exports = own_side (span_at n) p.types i o.0.exports.entries is.exports })

pub moved_named_apart : MovedInterfacesAreNamedApart
moved_named_apart p n h i j d e x y at_i at_j x_is y_is same =
    let a = got_behind (interface_by (span_at n)) (asked p).interfaces p.interfaces i d at_i in
    let b = got_behind (interface_by (span_at n)) (asked p).interfaces p.interfaces j e at_j in
    h i j a.0 b.0 x y a.1 b.1 (ap (λ (z : Interface). z.name) a.2 ∙ x_is) (ap (λ (z : Interface). z.name) b.2 ∙ y_is) same
