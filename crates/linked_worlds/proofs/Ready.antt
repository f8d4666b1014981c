-- Nothing stands in the way of functions of a world behind its interfaces.
use Rattle.std.proofs.Common.{◌≡◌, ℕ, ◌<◌, ◌+◌, Bool, true, false, List, [], ◌∷◌, ◌++◌, inl, inr, Option, Some, None, String, refl, sym, subst, ap, ◌∙◌, arith}
use Rattle.std.proofs.lemmas.Bool.{eq-eqb}
use Rattle.std.specs.Prelude.{slice_get, flat_map, string_bytes}
use Rattle.std.specs.declared.alloc.Global.{Global}
use Rattle.wasm_types.specs.Entries.{ImportValue}
use Rattle.wit_order.specs.Order.{Has}
use Rattle.wit_order.proofs.Lists.{has_was}
use Rattle.wit_types.specs.declared.function.Function.{Function}
use Rattle.wit_types.specs.declared.interface.TypeDef.{TypeDef}
use Rattle.wit_types.specs.declared.interface.TypeOwner.{TypeOwner}
use Rattle.wit_types.specs.declared.interface.TypeOwner.TheVariants as belongs
use Rattle.wit_types.specs.declared.world.WorldItem.{WorldItem}
use Rattle.wit_types.specs.declared.world.WorldItem.TheVariants as item
use Rattle.wit_types.specs.declared.world_key.WorldKey.{WorldKey}
use Rattle.wit_types.specs.declared.world_key.WorldKey.TheVariants as key
use Rattle.wit_reach.specs.Deps.{AreUsed, interface_of}
use Rattle.wit_reach.specs.Ids.{kind_ids, resource_ids, signature_ids, function_ids}
use Rattle.wit_reach.specs.Lists.{type_items}
use Rattle.wit_reach.specs.Made.{is_open, IsMadeOfWithin}
use Rattle.wit_reach.specs.Paths.{AreEnds, AreRising}
use Rattle.wit_reach.specs.Types.{IsMadeOf}
use Rattle.wit_reach.proofs.Ends.{reaches_more}
use Rattle.wit_reach.proofs.Holding.{has_mapped, flat_has}
use Rattle.wit_reach.proofs.Lists.{has_append}
use Rattle.wit_reach.proofs.Seen.{path_over}
use Rattle.right_components.specs.Passed.core_links-Names.{Names}
use Rattle.right_components.specs.Passed.core_links-Needed.{own_functions, AreOwnNeeded, AreLinkedNeeded}
use Rattle.right_components.specs.Passed.link_table-Linking.{exported_functions}
use Rattle.linked_types.specs.Reached.{ids_of, MayBeLinked}
use Rattle.right_components.specs.Passed.type_writing-Writing.{name_of, name_given, names_of_types, IsRemembered}
use Rattle.right_components.specs.Passed.type_sinks-declared-root-Root.{Root}
use Rattle.right_components.specs.Passed.type_sinks-Root.{is_of_world}
use Rattle.right_components.specs.Passed.type_sinks-Views.{root_names, root_setting}
use Rattle.linked_interfaces.specs.Passed.component_imports-Functions.{function_names}
use Rattle.linked_interfaces.specs.Passed.component_imports-Interface.{interface_name}
use Rattle.linked_interfaces.specs.Passed.component_imports-Interfaces.{asked, is_needed, names_from, AreNeededImported}
use Rattle.linked_interfaces.specs.Passed.component_imports-Ready.{IsWrittenHere, IsNeverWritten, AreReady, IsAsked, IsInterfaceAsked, ReadyFunctionsAreImported}
use Rattle.linked_interfaces.specs.Passed.component_imports-World.{AreWorldItemsUnready}
use Rattle.linked_interfaces.specs.Writable.{all_linked}
use Rattle.linked_interfaces.proofs.Passed.flat_trees-Unready.{type_written, function_written}
use Rattle.linked_interfaces.proofs.Writable.{among_first, among_second, asked_reached}
use Rattle.wit_item_names.specs.Passed.wit_uses-Uses.{IsTaken}
use Rattle.wit_graph.specs.Graph.{AreWhole}
use Rattle.wit_graph.specs.declared.tables.Tables.{Tables}
use Rattle.linked_worlds.specs.Importable.{IsEmptyRoot, own_and_exported}
use Rattle.linked_worlds.specs.Linked.{AreNamesOf}
use Rattle.linked_worlds.specs.Named.{AreItemsNamed}
use Rattle.linked_worlds.specs.Ready.{MayBeTaken, OwnAreImported}
use Rattle.wit_item_names.specs.Used.{HasText}
use Rattle.linked_worlds.proofs.Asked as from
use Rattle.linked_worlds.proofs.Distinct.{AreApart, has_or, are_distinct, apart_append, name_from, IsNameFrom, from_apart, flat_of, ids_apart, own_entry, own_apart, part_apart}
use Rattle.linked_worlds.proofs.Importable.{HasItsText, text_of, one_text}
use Rattle.linked_worlds.proofs.Naming.{keys, plainly_named, texts}
use Rattle.linked_worlds.proofs.Needed.{part_has}
use Rattle.linked_worlds.proofs.Own.{IsEntry, start_asked, taken_by, world_owner, type_entry}
use Rattle.linked_worlds.proofs.Told.{one_item}

-- ---- lists

-- what is below one of a rising list stands before it
rising_front : (before : List ℕ) (i : ℕ) (behind : List ℕ) (k : ℕ) → AreRising (before ++ i ∷ behind) → Has (before ++ i ∷ behind) k → k < i → Has before k
rising_front [] i behind k up h lt = elim h as (λ _. ⊥) [
  | inl e ↦ absurd (omega (arith, lt, e))
  | inr later ↦ (let above = up.0 k later in absurd (omega (arith, above, lt)))
]
rising_front (b ∷ before) i behind k up h lt = elim h as (λ _. Has (b ∷ before) k) [
  | inl e ↦ inl e
  | inr later ↦ inr (rising_front before i behind k up.1 later lt)
]

mid_has : (before : List ℕ) (i : ℕ) (behind : List ℕ) → Has (before ++ i ∷ behind) i
mid_has before i behind = has_append before (i ∷ behind) i (inl refl)

-- ---- owners

opens_world : (w : ℕ) (o : TypeOwner) → o ≡ belongs.World w → is_open (belongs.World w) o ≡ true
opens_world w o e = subst (λ (x : TypeOwner). is_open (belongs.World w) x ≡ true) (sym e) (eq-eqb w w refl)

opens_none : (by o : TypeOwner) → o ≡ belongs.None → is_open by o ≡ true
opens_none by o e = subst (λ (x : TypeOwner). is_open by x ≡ true) (sym e) refl

-- a type that is written with a world is open to it
here_is_open : (w : ℕ) (uses : ℕ → Type 0) (o : TypeOwner) → IsTaken (belongs.World w) uses o → is_of_world o ≡ true → is_open (belongs.World w) o ≡ true
here_is_open w uses belongs.None t e = refl
here_is_open w uses (belongs.World v) t e = opens_world w (belongs.World v) t
here_is_open w uses (belongs.Interface j) t e = absurd cc

given_one : (b : Bool) (x : Option (String Global)) → AreApart (name_given b x)
given_one true (Some x) = ((λ y none e. none), tt)
given_one true None = tt
given_one false x = tt

given_is : (b : Bool) (x : Option (String Global)) (y : List ℕ) → Has (name_given b x) y → (b ≡ true) × ((z : String Global) × (x ≡ Some z) × (y ≡ string_bytes z))
given_is true (Some z) y (inl here) = (refl, (z, refl, here))
given_is true (Some z) y (inr none) = absurd none
given_is true None y h = absurd h
given_is false x y h = absurd h

-- ---- a world of a graph

module _ (t : Tables) (i : ℕ) (n : Names) (r new : Root) (imports : List ImportValue) (own : List Function) (linked : List (List Function)) (whole : AreWhole t) (named : AreItemsNamed t) (are : AreNamesOf t i n)
    (root : IsEmptyRoot n r) (own_are : AreOwnNeeded n imports own) (linked_are : AreLinkedNeeded n imports linked)
  where
    abbrev es : List (WorldKey × WorldItem)
    es = n.world.imports.entries

    abbrev others : List ℕ
    others = ids_of (own_and_exported n own)

    abbrev starts : List ℕ
    starts = ids_of (exported_functions n.world) ++ ids_of own

    module _ (ids : List ℕ) (ends : AreEnds (IsMadeOfWithin (belongs.World i) t.types) (Has starts) ids) where
      is_asked : (k : ℕ) → Has ids k → IsAsked t.types others linked k
      is_asked k h =
          let s = ends.only k h in (
            s.0,
            has_was others (flat_map ids_of linked) s.0 (start_asked t i n imports own whole named are own_are s.0 s.1),
            (s.2.0, path_over (IsMadeOfWithin (belongs.World i) t.types) (IsMadeOf t.types) (λ a b u. (u.0, u.1, u.3)) s.0 s.2.0 k s.2.1),
          )

      -- one with a name that is written with the world is its own
      imported_type : (k : ℕ) (d : TypeDef) (x : String Global) → Has ids k → slice_get t.types k ≡ Some d → d.name ≡ Some x → is_of_world d.owner ≡ true → IsEntry es k (string_bytes x)
      imported_type k d x h at called here = elim (world_owner t i n imports own whole named are own_are ids ends k d x h at called) as (λ _. IsEntry es k (string_bytes x)) [
        | inl of ↦ absurd (let e : is_of_world (belongs.Interface of.0) ≡ true = sym (ap is_of_world of.1) ∙ here in cc)
        | inr its ↦ type_entry t i n imports own whole named are own_are ids ends k d x h at called its
      ]

      -- ---- all of it

      module _ (instances : List (Option ℕ)) (may : MayBeLinked t.types (all_linked linked ++ own_and_exported n own)) (done : AreNeededImported r new t.types instances others linked) (taken : MayBeTaken new t.types others linked) where
        kinds : (k : ℕ) (d : TypeDef) → Has ids k → slice_get t.types k ≡ Some d → IsWrittenHere (root_setting new) d → IsNeverWritten d → ⊥
        kinds k d h at here = type_written d (may.types_are k d (asked_reached t.types (own_and_exported n own) linked k (is_asked k h)) at)

        opened : (k : ℕ) (d : TypeDef) → Has ids k → slice_get t.types k ≡ Some d → IsWrittenHere (root_setting new) d → is_open (belongs.World i) d.owner ≡ true
        opened k d h at (inl nameless) = opens_none (belongs.World i) d.owner (whole.whole.nameless k d at nameless)
        opened k d h at (inr here) = here_is_open i (AreUsed t.types (type_items (from.listed t i n whole are).imports.entries)) d.owner (taken_by t i n imports own whole named are own_are ids ends k d h at) here

        parts : (before : List ℕ) (k : ℕ) (behind : List ℕ) (d : TypeDef) (m : ℕ) → ids ≡ before ++ k ∷ behind → slice_get t.types k ≡ Some d → IsWrittenHere (root_setting new) d → Has (kind_ids d.kind) m → Has before m
        parts before k behind d m e at here part =
            let has : Has ids k = subst (λ (l : List ℕ). Has l k) (sym e) (mid_has before k behind) in
            let s = ends.only k has in
            let there : Has ids m = ends.all m s.0 s.1 (reaches_more (IsMadeOfWithin (belongs.World i) t.types) s.0 k m s.2 (d, at, opened k d has at here, part)) in
            let below : m < k = whole.whole.sound.backward k m (d, at, part) in
            rising_front before k behind m (subst AreRising e ends.rising) (subst (λ (l : List ℕ). Has l m) e there) below

        foreign : (k : ℕ) (d : TypeDef) (x : String Global) → Has ids k → slice_get t.types k ≡ Some d → d.name ≡ Some x → is_of_world d.owner ≡ false → IsRemembered (root_setting new).homes k
        foreign k d x h at called other = of_owner d.owner refl other
          where
            of_owner : (o : TypeOwner) → d.owner ≡ o → is_of_world o ≡ false → IsRemembered (root_setting new).homes k
            of_owner belongs.None its e = absurd cc
            of_owner (belongs.World v) its e = absurd cc
            of_owner (belongs.Interface j) its e = taken j k d x (d, at, ap interface_of its) (is_asked k h) at called

        over : (f : Function) (k : ℕ) → Has own f → Has (signature_ids f) k → Has ids k
        over f k has part =
            let start : Has starts k = has_append (ids_of (exported_functions n.world)) (ids_of own) k (flat_has function_ids own f k has (has_append (resource_ids f.kind) (signature_ids f) k part)) in
            ends.all k k start ([], refl)

        -- ---- names

        asks : (j : ℕ) (ks : List ℕ) (fs : List Function) → slice_get done.needed j ≡ Some ks → slice_get linked j ≡ Some fs → is_needed ks fs ≡ true → IsInterfaceAsked t.types others linked j
        asks j [] [] a b e = absurd cc
        asks j [] (f ∷ fs) a b e = inr (f ∷ fs, f, b, inl refl)
        asks j (k ∷ ks) fs a b e = (let need = (done.are.needed j (k ∷ ks) a k).0 (inl refl) in inl (k, need.0, need.1))

        abbrev ItsText : ℕ → Type 0
        ItsText j = HasItsText t i n r imports own linked whole named are root own_are linked_are j

        interface_text : (j : ℕ) → IsInterfaceAsked t.types others linked j → ItsText j
        interface_text j asked =
            text_of t i n r imports own linked whole named are root own_are linked_are j (subst (λ (ds : List TypeDef). IsInterfaceAsked ds others linked j) (sym are.types_are) asked)

        interfaces_apart : AreApart (names_from (interface_name r) 0 done.needed linked)
        interfaces_apart =
            from_apart (interface_name r) (IsInterfaceAsked t.types others linked) (λ a b x y e. one_text t i n r imports own linked whole named are root own_are linked_are a b (interface_text a x) (interface_text b y) (sym e)) 0 done.needed linked
            (λ j ks fs a b e. subst (IsInterfaceAsked t.types others linked) (let z : j ≡ 0 + j = omega arith in z) (asks j ks fs a b e))

        type_named : (k : ℕ) (y : List ℕ) → Has ids k → Has (name_of (root_setting new) (slice_get t.types k)) y → IsEntry es k y
        type_named k y h g = of_def (slice_get t.types k) refl g
          where
            of_def : (o : Option TypeDef) → slice_get t.types k ≡ o → Has (name_of (root_setting new) o) y → IsEntry es k y
            of_def None at g = absurd g
            of_def (Some d) at g = (let x = given_is (is_of_world d.owner) d.name y g in subst (IsEntry es k) (sym x.1.2) (imported_type k d x.1.0 h at x.1.1 x.0))

        of_one : (o : Option TypeDef) → AreApart (name_of (root_setting new) o)
        of_one None = tt
        of_one (Some d) = given_one (is_of_world d.owner) d.name

        types_apart : AreApart (names_of_types (root_setting new) t.types ids)
        types_apart = ids_apart (λ (k : ℕ). name_of (root_setting new) (slice_get t.types k)) ids ends.rising (λ k. of_one (slice_get t.types k)) (λ a b x y h k p q e.
            (let u = type_named a x h p in
            let v = type_named b y k q in
            let same : item.TypeItem a u.span ≡ item.TypeItem b v.span = one_item es (plainly_named t i n whole are named).apart u.name v.name (item.TypeItem a u.span) (item.TypeItem b v.span) u.has v.has (u.is ∙ e ∙ sym v.is) in
            cc))

        functions_apart : AreApart (function_names own)
        functions_apart =
            part_apart own (own_functions es) own_are.part (own_apart es (plainly_named t i n whole are named).functions es (λ e h. h) (keys t i n whole are named) (plainly_named t i n whole are named).apart)

        -- it's the name of a function that the world imports
        record IsImportedFunction (y : List ℕ) : Type 0 where
          name : String Global
          function : Function
          has : Has es (key.Name name, item.Function function)
          is : string_bytes name ≡ y

        function_named : (y : List ℕ) → Has (function_names own) y → IsImportedFunction y
        function_named y h =
            let f = has_mapped (λ (g : Function). string_bytes g.name) own y h in
            let e = own_entry es (keys t i n whole are named) f.0 (part_has own (own_functions es) f.0 own_are.part f.1) in
            record { name = e.0; function = f.0; has = e.1; is = sym ((plainly_named t i n whole are named).functions e.0 f.0 e.1) ∙ f.2 }

        -- no name of an interface is that of a type or of a function
        text_is : (x : List ℕ) (y : List ℕ) (z : String Global) (a : IsNameFrom (interface_name r) 0 done.needed linked x) (u : ItsText a.place) → x ≡ y → string_bytes z ≡ y → HasText n.known.packages n.known.interfaces u.key (string_bytes z)
        text_is x y z a u same is =
            let zero_is : 0 + a.place ≡ a.place = omega arith in
            let e : u.text ≡ string_bytes z = sym u.is_name ∙ sym (ap (interface_name r) zero_is) ∙ sym a.name_is ∙ same ∙ sym is in
            subst (HasText n.known.packages n.known.interfaces u.key) e u.has

        interface_differs : (x y : List ℕ) → Has (names_from (interface_name r) 0 done.needed linked) x → Has (names_of_types (root_setting new) t.types ids ++ function_names own) y → x ≡ y → ⊥
        interface_differs x y h g same =
            let a = name_from (interface_name r) 0 done.needed linked x h in
            let u = interface_text a.place (asks a.place a.ids a.functions a.at_needed a.at_linked a.is) in
            elim (has_or (names_of_types (root_setting new) t.types ids) (function_names own) y g) as (λ _. ⊥) [
              | inl typed ↦
                  let k = flat_of (λ (m : ℕ). name_of (root_setting new) (slice_get t.types m)) ids y typed in
                  let v = type_named k.0 y k.1 k.2 in
                  (texts t i n whole are named).types_apart u.key a.place u.imported.0 u.imported.1 v.span v.name k.0 u.imported.2 v.has (text_is x y v.name a u same v.is)
              | inr function ↦
                  let v = function_named y function in
                  (texts t i n whole are named).functions_apart u.key a.place u.imported.0 u.imported.1 v.name v.function u.imported.2 v.has (text_is x y v.name a u same v.is)
            ]

        type_differs : (x y : List ℕ) → Has (names_of_types (root_setting new) t.types ids) x → Has (function_names own) y → x ≡ y → ⊥
        type_differs x y h g same =
            let k = flat_of (λ (m : ℕ). name_of (root_setting new) (slice_get t.types m)) ids x h in
            let u = type_named k.0 x k.1 k.2 in
            let v = function_named y g in
            let one : item.TypeItem k.0 u.span ≡ item.Function v.function =
            one_item es (plainly_named t i n whole are named).apart u.name v.name (item.TypeItem k.0 u.span) (item.Function v.function) u.has v.has (u.is ∙ same ∙ sym v.is) in
            cc

        all_apart : AreApart (root_names new ++ (names_of_types (root_setting new) t.types ids ++ function_names own))
        all_apart =
            let given : root_names new ≡ names_from (interface_name r) 0 done.needed linked = done.imported.names ∙ ap (λ (l : List (List ℕ)). l ++ names_from (interface_name r) 0 done.needed linked) root.empty in
            subst (λ (l : List (List ℕ)). AreApart (l ++ (names_of_types (root_setting new) t.types ids ++ function_names own))) (sym given)
            (apart_append (names_from (interface_name r) 0 done.needed linked) (names_of_types (root_setting new) t.types ids ++ function_names own) interfaces_apart
            (apart_append (names_of_types (root_setting new) t.types ids) (function_names own) types_apart functions_apart type_differs) interface_differs)

        pub ready : AreReady (root_setting new) (root_names new) t.types ids own
        ready = record {
          kinds = kinds;
          parts = parts;
          foreign = foreign;
          written = λ f has. function_written f (may.functions f (among_second (all_linked linked) (own_and_exported n own) f (among_first own (exported_functions n.world) f has)));
          over = over;
          distinct = are_distinct (root_names new ++ (names_of_types (root_setting new) t.types ids ++ function_names own)) all_apart;
        }

pub own_imported : ReadyFunctionsAreImported → OwnAreImported
own_imported law t i n r new imports own linked whole named are root own_are linked_are may done (ids, ends, unready) =
    let there : AreEnds (IsMadeOfWithin (belongs.World i) t.types) (Has (ids_of (exported_functions n.world) ++ ids_of own)) ids =
    subst (λ (ds : List TypeDef). AreEnds (IsMadeOfWithin (belongs.World i) ds) (Has (ids_of (exported_functions n.world) ++ ids_of own)) ids) are.types_are ends in
    law new t.types ids own
    (ready t i n r new imports own linked whole named are root own_are linked_are ids there done.instances
    (subst (λ (ds : List TypeDef). MayBeLinked ds (all_linked linked ++ own_and_exported n own)) are.types_are may)
    (subst (λ (ds : List TypeDef). AreNeededImported r new ds done.instances (ids_of (own_and_exported n own)) linked) are.types_are done.imported)
    (subst (λ (ds : List TypeDef). MayBeTaken new ds (ids_of (own_and_exported n own)) linked) are.types_are done.taken))
    (subst (λ (ds : List TypeDef). AreWorldItemsUnready new ds ids own) are.types_are unready)
