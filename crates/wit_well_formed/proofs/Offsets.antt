-- What is well formed stays so wherever its places are.
use Rattle.std.proofs.Common.{◌≡◌, ℕ, ◌+◌, List, [], ◌∷◌, ◌++◌, map, length, drop, refl, sym, subst, ap, ◌∙◌, arith}
use Rattle.std.proofs.lemmas.List.{drop-map, length-map, with_items_is}
use Rattle.std.proofs.lemmas.List.Folds.{flat_map-map}
use Rattle.std.proofs.lemmas.Option.{slice_get-map}
use Rattle.std.specs.Prelude.{flat_map, option_map, String, Vec, string_bytes}
use Rattle.std.specs.declared.alloc.Global.{Global}
use Rattle.wit_order.specs.Order.{Has}
use Rattle.wit_words.specs.declared.source_map.Span.{Span}
use Rattle.wit_types.specs.declared.function.Function.{Function}
use Rattle.wit_types.specs.declared.function.Param.{Param}
use Rattle.wit_types.specs.declared.kind.Case.{Case}
use Rattle.wit_types.specs.declared.kind.Field.{Field}
use Rattle.wit_types.specs.declared.kind.TypeDefKind.{TypeDefKind}
use Rattle.wit_types.specs.declared.kind.TypeDefKind.TheVariants as kind
use Rattle.wit_types.specs.declared.interface.Interface.{Interface}
use Rattle.wit_types.specs.declared.interface.TypeDef.{TypeDef}
use Rattle.wit_types.specs.declared.«package».AstItem.TheVariants as asked_item
use Rattle.wit_types.specs.declared.«package».AstItem.{AstItem}
use Rattle.wit_types.specs.declared.«package».UnresolvedPackage.{UnresolvedPackage}
use Rattle.wit_types.specs.declared.world.World.{World}
use Rattle.wit_types.specs.declared.world.WorldItem.{WorldItem}
use Rattle.wit_types.specs.declared.world.WorldItem.TheVariants as item
use Rattle.wit_types.specs.declared.world_key.WorldKey.{WorldKey}
use Rattle.wit_types.specs.declared.world_key.WorldKey.TheVariants as key
use Rattle.wit_elaborated.specs.Worlds.{IsKeyOfItem, AreKeysOfItems}
use Rattle.wit_finding.specs.Asks.{IsItemThere}
use Rattle.wit_reach.specs.Deps.{interface_of}
use Rattle.wit_reach.specs.Holding.{IsUpTo, IsMadeUpTo, listed_types, functions_ids, IsTypeUnder, AreListed, HoldTheirTypes}
use Rattle.wit_reach.specs.Ids.{ref_ids, part_ids, kind_ids, resource_ids, function_ids}
use Rattle.wit_reach.specs.Types.{IsMadeOf}
use Rattle.wit_reach.proofs.Seen.{path_over}
use Rattle.wit_offsets.specs.Offsets.{items_by, param_by, function_by, field_by, case_by, kind_by, type_def_by, interface_by, item_by, world_by, package_by, span_at}
use Rattle.wit_labels.specs.Passed.wit_placed-Order.{AreNamelessFree}
use Rattle.wit_labels.specs.Passed.wit_placed-Listed.{AreOwnersBehind}
use Rattle.wit_labels.specs.Passed.wit_placed-Naming.{AreNamesApart, HasNamesApart, HaveNamesApart}
use Rattle.wit_graph_parts.specs.Own.{asked, asked_types, IsWellFormed}
use Rattle.wit_well_formed.specs.Law.{MovedPackagesAreWellFormed}
use Rattle.wit_reach.proofs.Holding.{has_mapped}
use Rattle.wit_well_formed.proofs.Lists.{got_mapped, got_behind}

same_length : {X : Type 0} (g : X → X) (v : Vec X Global) → length (items_by g v).items ≡ length v.items
same_length g v = sym (items_by g v).ok.0 ∙ v.ok.0

pub items_are : {X : Type 0} (g : X → X) (v : Vec X Global) → (items_by g v).items ≡ map g v.items
items_are g v = with_items_is v (map g v.items) (length-map v.items g ∙ sym v.ok.0)

module _ (f : Span → Span) where
  -- ---- types, which are made of the same

  pub same_ids : (k : TypeDefKind) → kind_ids (kind_by f k) ≡ kind_ids k
  same_ids (kind.Record r) = ap (flat_map (λ (x : Field). ref_ids x.ty)) (items_are (field_by f) r.fields) ∙ flat_map-map (λ (x : Field). ref_ids x.ty) (field_by f) r.fields.items
  same_ids kind.Resource = refl
  same_ids (kind.Handle h) = refl
  same_ids (kind.Flags x) = refl
  same_ids (kind.Tuple t) = refl
  same_ids (kind.Variant v) = ap (flat_map (λ (c : Case). part_ids c.ty)) (items_are (case_by f) v.cases) ∙ flat_map-map (λ (c : Case). part_ids c.ty) (case_by f) v.cases.items
  same_ids (kind.Enum e) = refl
  same_ids (kind.Option r) = refl
  same_ids (kind.Result r) = refl
  same_ids (kind.List r) = refl
  same_ids (kind.FixedLengthList r n) = refl
  same_ids (kind.Future p) = refl
  same_ids (kind.Stream p) = refl
  same_ids (kind.Alias r) = refl
  same_ids kind.Unknown = refl

  made_of : (ds : List TypeDef) (i j : ℕ) → IsMadeOf (map (type_def_by f) ds) i j → IsMadeOf ds i j
  made_of ds i j (d, at, has) =
      let o = got_mapped (type_def_by f) ds i d at in
      (o.0, o.1, subst (λ (is : List ℕ). Has is j) (same_ids o.0.kind) (subst (λ (x : TypeDef). Has (kind_ids x.kind) j) (sym o.2) has))

  made_up_to : (ds : List TypeDef) (a s : ℕ) → IsMadeUpTo ds a s → IsMadeUpTo (map (type_def_by f) ds) a s
  made_up_to ds a s up k d reach at =
      let o = got_mapped (type_def_by f) ds k d at in
      subst (λ (x : TypeDef). IsUpTo a x.owner) o.2 (up k o.0 (reach.0, path_over (IsMadeOf (map (type_def_by f) ds)) (IsMadeOf ds) (made_of ds) s reach.0 k reach.1) o.1)

  -- ---- interfaces, which hold the same

  pub same_function : (x : Function) → function_ids (function_by f x) ≡ function_ids x
  same_function x =
      ap (λ (is : List ℕ). resource_ids x.kind ++ (is ++ part_ids x.result))
      (ap (flat_map (λ (p : Param). ref_ids p.ty)) (items_are (param_by f) x.params) ∙ flat_map-map (λ (p : Param). ref_ids p.ty) (param_by f) x.params.items)

  pub same_functions : (es : List (String Global × Function)) → flat_map (λ (e : String Global × Function). function_ids e.1) (map (λ (e : String Global × Function). (e.0, function_by f e.1)) es) ≡ flat_map (λ (e : String Global × Function). function_ids e.1) es
  same_functions [] = refl
  same_functions (e ∷ es) = (let p = same_function e.1 in let q = same_functions es in λ i. (p i) ++ (q i))

  type_under : (ds : List TypeDef) (n : ℕ) (e : String Global × ℕ) → IsTypeUnder ds n e → IsTypeUnder (map (type_def_by f) ds) n e
  type_under ds n e u = record {
    type_def = type_def_by f u.type_def;
    there = slice_get-map (type_def_by f) ds e.1 ∙ ap (option_map (type_def_by f)) u.there;
    its = u.its;
    own_name = u.own_name;
    named = u.named;
    is = u.is;
  }

  module _ (ds : List TypeDef) (others : ℕ) (is : List Interface) (hold : HoldTheirTypes others ds (drop others is)) where
    same_hold : HoldTheirTypes others (map (type_def_by f) ds) (drop others (map (interface_by f) is))
    same_hold = record {
      named = λ i d x at named none. (let o = got_mapped (type_def_by f) ds i d at in hold.named i o.0 x o.1 (ap (λ (y : TypeDef). y.name) o.2 ∙ named) (ap (λ (y : TypeDef). y.owner) o.2 ∙ none));
      theirs = λ k d e at h. (let o = got_behind (interface_by f) others is k d at in type_under ds (others + k) e (hold.theirs k o.0 e o.1 (subst (λ (x : Interface). Has x.types.entries e) (sym o.2) h)));
      types_use = λ k s d at h. (let o = got_behind (interface_by f) others is k d at in made_up_to ds (others + k) s (hold.types_use k s o.0 o.1 (subst (λ (x : Interface). Has (listed_types x) s) (sym o.2) h)));
      functions_use = λ k s d at h.
          (let o = got_behind (interface_by f) others is k d at in
          made_up_to ds (others + k) s (hold.functions_use k s o.0 o.1 (subst (λ (ids : List ℕ). Has ids s) (same_functions o.0.functions.entries) (subst (λ (x : Interface). Has (functions_ids x) s) (sym o.2) h))));
    }

  -- and the same types belong to them
  same_listed : (ds : List TypeDef) (others : ℕ) (is : List Interface) → AreListed others ds (drop others is) → AreListed others (map (type_def_by f) ds) (drop others (map (interface_by f) is))
  same_listed ds others is listed i k d at (t, at_t, of) =
      let o = got_behind (interface_by f) others is k d at in
      let u = got_mapped (type_def_by f) ds i t at_t in
      subst (λ (x : Interface). Has (listed_types x) i) o.2 (listed i k o.0 o.1 (u.0, u.1, ap (λ (x : TypeDef). interface_of x.owner) u.2 ∙ of))

  -- under names that are apart
  functions_apart : (es : List (String Global × Function)) → AreNamesApart es → AreNamesApart (map (λ (e : String Global × Function). (e.0, function_by f e.1)) es)
  functions_apart es apart i j x y at_i at_j same =
      let a = got_mapped (λ (e : String Global × Function). (e.0, function_by f e.1)) es i x at_i in
      let b = got_mapped (λ (e : String Global × Function). (e.0, function_by f e.1)) es j y at_j in
      apart i j a.0 b.0 a.1 b.1 (ap (λ (e : String Global × Function). string_bytes e.0) a.2 ∙ same ∙ ap (λ (e : String Global × Function). string_bytes e.0) (sym b.2))

  same_names : (d : Interface) → HasNamesApart d → HasNamesApart (interface_by f d)
  same_names d names = record {
    types = names.types;
    functions = functions_apart d.functions.entries names.functions;
    named = λ e has.
        (let o = has_mapped (λ (e : String Global × Function). (e.0, function_by f e.1)) d.functions.entries e has in
        ap (λ (x : String Global × Function). string_bytes x.1.name) (sym o.2) ∙ names.named o.0 o.1 ∙ ap (λ (x : String Global × Function). string_bytes x.0) o.2);
    between = λ e g has_e has_g same.
        (let o = has_mapped (λ (e : String Global × Function). (e.0, function_by f e.1)) d.functions.entries g has_g in
        names.between e o.0 has_e o.1 (same ∙ ap (λ (x : String Global × Function). string_bytes x.0) (sym o.2)));
  }

  -- ---- what worlds import

  key_of : (e : WorldKey × WorldItem) → IsKeyOfItem e → IsKeyOfItem (e.0, item_by f e.1)
  key_of (key.Name n, x) h = tt
  key_of (key.Interface i, item.Interface id stability span) h = h
  key_of (key.Interface i, item.Function x) h = h
  key_of (key.Interface i, item.TypeItem id span) h = h

  keys_of : (es : List (WorldKey × WorldItem)) → AreKeysOfItems es → AreKeysOfItems (map (λ (e : WorldKey × WorldItem). (e.0, item_by f e.1)) es)
  keys_of [] h = tt
  keys_of (e ∷ es) h = (key_of e h.0, keys_of es h.1)

  -- ---- packages

  item_there : (interfaces : List Interface) (worlds : List World) (i : AstItem) → IsItemThere interfaces worlds i → IsItemThere (map (interface_by f) interfaces) (map (world_by f) worlds) i
  item_there interfaces worlds (asked_item.Interface i) h = (let e = length-map interfaces (interface_by f) in omega (arith, h, e))
  item_there interfaces worlds (asked_item.World i) h = (let e = length-map worlds (world_by f) in omega (arith, h, e))

  module _ (p : UnresolvedPackage) (w : IsWellFormed p) where
    asked_for : asked_types (package_by f p) ≡ asked_types p
    asked_for = same_length f p.unknown_type_spans

    nameless : AreNamelessFree (drop (asked_types p) (map (type_def_by f) p.types))
    nameless k d at none =
        let o = got_behind (type_def_by f) (asked_types p) p.types k d at in
        ap (λ (x : TypeDef). x.owner) (sym o.2) ∙ w.nameless k o.0 o.1 (ap (λ (x : TypeDef). x.name) o.2 ∙ none)

    owned : AreOwnersBehind (asked p).interfaces (drop (asked_types p) (map (type_def_by f) p.types))
    owned k j d at of = (let o = got_behind (type_def_by f) (asked_types p) p.types k d at in w.owned k j o.0 o.1 (ap (λ (x : TypeDef). interface_of x.owner) o.2 ∙ of))

    names : HaveNamesApart (drop (asked p).interfaces (map (interface_by f) p.interfaces))
    names d has =
        let o = has_mapped (interface_by f) (drop (asked p).interfaces p.interfaces) d (subst (λ (ds : List Interface). Has ds d) (drop-map (interface_by f) (asked p).interfaces p.interfaces) has) in
        subst HasNamesApart o.2 (same_names o.0 (w.names o.0 o.1))

    keys : (x : World) → Has (drop (asked p).worlds (map (world_by f) p.worlds)) x → AreKeysOfItems x.imports.entries
    keys x has =
        let o = has_mapped (world_by f) (drop (asked p).worlds p.worlds) x (subst (λ (ws : List World). Has ws x) (drop-map (world_by f) (asked p).worlds p.worlds) has) in
        subst (λ (y : World). AreKeysOfItems y.imports.entries) o.2 (keys_of o.0.imports.entries (w.keys o.0 o.1))

    moved_by : IsWellFormed (package_by f p)
    moved_by = record {
      spans = same_length f p.foreign_dep_spans ∙ w.spans;
      deps = λ es has e among. item_there p.interfaces p.worlds e.1.0 (w.deps es has e among);
      unknown = (let few = w.unknown in let e = length-map p.types (type_def_by f) in omega (arith, few, e, asked_for));
      nameless = subst (λ (n : ℕ). AreNamelessFree (drop n (map (type_def_by f) p.types))) (sym asked_for) nameless;
      owned = subst (λ (n : ℕ). AreOwnersBehind (asked p).interfaces (drop n (map (type_def_by f) p.types))) (sym asked_for) owned;
      holds = same_hold p.types (asked p).interfaces p.interfaces w.holds;
      listed = same_listed p.types (asked p).interfaces p.interfaces w.listed;
      names = names;
      keys = keys;
    }

pub moved : MovedPackagesAreWellFormed
moved p n w = moved_by (span_at n) p w
