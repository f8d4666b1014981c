-- Interfaces and worlds of a package's texts are in the graph under their names.
use Rattle.std.proofs.Common.{is_some, ◌≡◌, ◌<◌, ℕ, ◌+◌, zero, suc, Bool, true, false, List, [], ◌∷◌, ◌++◌, map, length, Option, Some, None, bytes_eq, inl, inr, refl, sym, subst, ap, ◌∙◌, arith}
use Rattle.std.proofs.lemmas.Bool.{cases_lt}
use Rattle.std.proofs.lemmas.List.{length-map}
use Rattle.std.proofs.lemmas.Option.{same_Some, slice_get_within, slice_get-map}
use Rattle.std.proofs.lemmas.Slice.Eq.{bytes_eq-Decides}
use Rattle.std.specs.Prelude.{String, option_map, if◌then◌else◌, flat_map, string_bytes, slice_get}
use Rattle.std.specs.declared.alloc.Global.{Global}
use Rattle.indexmap.specs.IndexMap.{insert_entry, insert_all}
use Rattle.wit_order.specs.Order as order
use Rattle.wit_types.specs.declared.interface.Interface.{Interface}
use Rattle.wit_types.specs.declared.interface.TypeOwner.TheVariants as belongs
use Rattle.wit_types.specs.declared.world.World.{World}
use Rattle.wit_types.specs.declared.stability.Stability.{Stability}
use Rattle.wit_types.specs.declared.«package».Package.{Package}
use Rattle.wit_types.specs.WorldKey.{placed}
use Rattle.wit_well_formed.specs.Passed.wit_worlds-Worlds.{target_owner}
use Rattle.wit_well_formed.specs.Passed.wit_resolved_scopes-Texts.{side_members, InterfaceText}
use Rattle.wit_moves.specs.Moved.{place_of, to}
use Rattle.wit_moves.specs.Plan.{OwnerPlaces}
use Rattle.wit_graph.specs.Passed.wit_placed-Order.{interface_places}
use Rattle.wit_graph.specs.Passed.wit_placed-Worlds.{world_places}
use Rattle.wit_graph.proofs.Passed.wit_placed-Own.{others_stay, interface_from}
use Rattle.wit_types.specs.declared.«package».PackageName.{PackageName}
use Rattle.wit_types.specs.declared.«package».UnresolvedPackage.{UnresolvedPackage}
use Rattle.wit_graph.specs.Graph.{Graph, items_of, sizes}
use Rattle.wit_graph.specs.Push.{IsPushed}
use Rattle.wit_syntax.specs.Ast.{FileTree}
use Rattle.wit_features.specs.Features.{FeatureSet, stays}
use Rattle.wit_offsets.specs.Offsets.{interface_by, world_by, span_at}
use Rattle.wit_scopes.specs.declared.worlds.Side.TheVariants.{Import, Export}
use Rattle.wit_scopes.specs.Paths as target
use Rattle.wit_scopes.specs.Paths.{TargetTree}
use Rattle.wit_scopes.specs.Scopes.{ItemScope, InterfaceScope, WorldMemberTree, WorldScope, package_scopes}
use Rattle.wit_arena.specs.Tree.{Name, in_interface, in_world, PackageText, Owner}
use Rattle.wit_arena.specs.Meaning.{Has}
use Rattle.wit_arena.proofs.Lists.{has_here, has_later, has_none, has_left, has_right, has_map}
use Rattle.wit_well_formed.specs.Passed.wit_foreign-Items.{worlds_in, interfaces_in}
use Rattle.wit_well_formed.proofs.Passed.wit_interfaces-Behind.{get_right, get_either}
use Rattle.wit_well_formed.specs.Passed.wit_package-Resolved.{IsResolved, context_of}
use Rattle.wit_well_formed.specs.Passed.wit_package-Steps.{Resolves}
use Rattle.wit_plans.specs.Checks.{Standing}
use Rattle.wit_plans.specs.Plans.{standing}
use Rattle.wit_moves.specs.Interfaces.{IsMovedInterface}
use Rattle.wit_moves.specs.Worlds.{IsMovedSide}
use Rattle.wit_plans.specs.Moves.{AreMovedInterfaces, no_interfaces, interface_goes, interface_stays, IsMovedWorld, AreMovedWorlds, no_worlds, world_goes, world_stays}
use Rattle.wit_plans.specs.declared.moves.MovedWorld.{MovedWorld}
use Rattle.wit_reach.proofs.Holding.{got}
use Rattle.wit_well_formed.proofs.Passed.wit_readiness-Flat.{in_flat, flat_has}
use Rattle.wit_well_formed.specs.Passed.wit_resolved_scopes-Texts.{interface_of, interfaces_of, interface_text, interface_texts, labelled_texts, world_of, worlds_of, AreItemsSorted}
use Rattle.wit_well_formed.proofs.Belonging.{no_more_worlds, counted, worlds_are_counted}
use Rattle.wit_well_formed.proofs.InterfaceNames.{named_apart as interfaces_named_apart}
use Rattle.wit_well_formed.proofs.OffsetNames.{moved_named_apart}
use Rattle.wit_graph.specs.Passed.wit_graph_worlds-Names.{Pair, by_bytes, name_at, interface_names, world_names, AreNames}
use Rattle.wit_graph.specs.Passed.wit_graph_parts-Own.{asked, own_parts}
use Rattle.wit_pushed_trees.specs.Staying.{Stays, IsListed, own_interface, Remains}
use Rattle.wit_pushed_trees.specs.There.{HasInterface, HasWorld, HasItems, ListsInterface, ListsWorld, ResolvedPackagesHaveTheirItems, MovedPackagesHaveTheirItems, PushedPackagesListTheirItems, IsNamedBy, IsWorldNamedBy}
use Rattle.wit_pushed_trees.specs.StayingWorlds.{Entry, HasSides, own_world}
use Rattle.wit_pushed_trees.specs.StayingPaths.{ListsPaths}
use Rattle.wit_pushed_trees.specs.StayingInner.{HasInterfaceAt, HasInners, ListsInners}
use Rattle.wit_pushed_trees.specs.Asked.{text_of}
use Rattle.wit_pushed_trees.specs.Found.{IsInterfaceOf, IsWorldOf, TellsNamesApart, NamesOfGraphStand}
use Rattle.wit_pushed_trees.proofs.Finding.{same_text, asked_found}
use Rattle.wit_pushed_trees.proofs.StayingIncludes.{KeepsKnown, named_worlds, resolved_includes, moved_includes, moved_worlds_named, include_placed, world_from}
use Rattle.wit_pushed_trees.proofs.Resolved.{resolved_owners, named_text, name_in}
use Rattle.wit_pushed_trees.proofs.StayingPaths.{resolved_named, resolved_paths, moved_owners_named, moved_paths, ArePlacedPaths, path_placed}
use Rattle.wit_pushed_trees.proofs.StayingInner.{own_one, of_text, resolved_inners, moved_inners, stands_moved, goes_there}
use Rattle.wit_pushed_trees.proofs.Apart.{resolved_worlds_apart, moved_worlds_apart}
use Rattle.wit_pushed_trees.proofs.StayingWorlds.{resolved_sides, moved_sides, moved_at, sides_kept, KeepsLabels, sides_of, interface_kept_at, world_there}
use Rattle.wit_pushed_trees.proofs.Staying.{some_name, at_sorted, mapped_at, own_placed, moved_members, members_listed, was_sorted}
use Rattle.wit_pushed_trees.proofs.Owning.{rest, table_so}
use Rattle.wit_well_formed.proofs.Lists.{get_drop, got_behind}
use Rattle.wit_package_types.specs.Stability.{IsStabilityOf}

-- ---- a package

in_order : (scopes sorted : List ItemScope) → AreItemsSorted scopes sorted → (s : ItemScope) → Has scopes s → Has sorted s
in_order scopes sorted (order, is_order, are) s (i, at) =
    let within : i < length scopes = slice_get_within scopes i s at in
    at_sorted scopes order sorted are i s (is_order.is_order.all i (subst (λ (n : ℕ). i < n) (sym (length-map scopes _)) within)) at

interfaces_in_order : (scopes sorted : List ItemScope) → AreItemsSorted scopes sorted → (t : InterfaceScope) → Has (interfaces_of scopes) t → Has (interface_texts sorted) (interface_text t)
interfaces_in_order scopes sorted are t has =
    let s = in_flat interface_of scopes t has in
    has_left (map interface_text (interfaces_of sorted)) (flat_map labelled_texts (worlds_of sorted)) (interface_text t) (has_map interface_text (interfaces_of sorted) t (flat_has interface_of sorted s.0 t (in_order scopes sorted are s.0 s.1) s.2))

worlds_in_order : (scopes sorted : List ItemScope) → AreItemsSorted scopes sorted → (t : WorldScope) → Has (worlds_of scopes) t → Has (worlds_of sorted) t
worlds_in_order scopes sorted are t has =
    let s = in_flat world_of scopes t has in
    flat_has world_of sorted s.0 t (in_order scopes sorted are s.0 s.1) s.2

-- and what is sorted was there
out_of_order : (scopes sorted : List ItemScope) → AreItemsSorted scopes sorted → (s : ItemScope) → Has sorted s → Has scopes s
out_of_order scopes sorted are s has = was_sorted scopes are.0 sorted are.2 s has

module _ (files : List FileTree) (p : UnresolvedPackage) (r : Resolves files p) where
  abbrev s : IsResolved files p
  s = r.resolved

  abbrev scopes : List ItemScope
  scopes = package_scopes s.me files

  has_interface : (t : InterfaceScope) → Has (interfaces_of (package_scopes s.me files)) t → HasInterface p t
  has_interface t has =
      let text = interfaces_in_order (package_scopes s.me files) s.sorted s.are_sorted t has in
      let d = of_text files p r text.0 (interface_text t) text.1 in
      let name = some_name d.made.name t.name.text d.name in
      record { number = d.number; made = d.made; there = d.there; named = record { name = name.0; named = name.1; text = name.2; gates = d.gates }; members = d.members }

  has_world : (t : WorldScope) → Has (worlds_of (package_scopes s.me files)) t → HasWorld (context_of s.me files s.items s.sorted).owners p t
  has_world t has =
      let text = worlds_in_order (package_scopes s.me files) s.sorted s.are_sorted t has in
      let within : text.0 < length (worlds_of s.sorted) = slice_get_within (worlds_of s.sorted) text.0 t text.1 in
      let size = s.own_worlds_are.so_many in
      let w = got s.own_worlds text.0 (omega (arith, within, size)) in
      let is = s.own_worlds_are.each text.0 t w.0 text.1 w.1 in
      let one = own_one s.foreign_worlds s.own_worlds p.worlds text.0 (asked p).worlds (worlds_in s.items) w.0 s.worlds_are s.foreign_are.so_many_worlds (no_more_worlds files p r) w.1 in
      let sides = resolved_sides files p r (context_of s.me files s.items s.sorted) t (length s.foreign_worlds + text.0) w.0 is in
      record {
        number = one.0;
        made = w.0;
        there = one.2;
        named = record { text = is.name; gates = is.stability };
        sides = subst (λ (n : ℕ). HasSides p (belongs.World n) t.members w.0) one.1 sides;
        paths = resolved_paths files p r t (length s.foreign_worlds + text.0) w.0 is;
        includes = resolved_includes files p r t (length s.foreign_worlds + text.0) w.0 is;
        inners = resolved_inners files p r t text (length s.foreign_worlds + text.0) w.0 is;
      }

  only_interface : (k : ℕ) (d : Interface) (x : String Global) → slice_get (own_parts p).interfaces k ≡ Some d → d.name ≡ Some x → (t : InterfaceScope) × Has (interfaces_of scopes) t × IsNamedBy t d
  only_interface k d x at named =
      let n : ℕ = (asked p).interfaces + k in
      let behind : slice_get (s.foreign_interfaces ++ s.own_interfaces) n ≡ Some d = subst (λ (ds : List Interface). slice_get ds n ≡ Some d) s.interfaces_are (get_drop (asked p).interfaces p.interfaces k d at) in
      elim (get_either s.foreign_interfaces s.own_interfaces n d behind) as (λ _. (t : InterfaceScope) × Has (interfaces_of scopes) t × IsNamedBy t d) [
        | inl other ↦ absurd (
            let within : n < length s.foreign_interfaces = slice_get_within s.foreign_interfaces n d other in
            let so_many : length s.foreign_interfaces ≡ interfaces_in s.items = s.foreign_are.so_many_interfaces in
            let most = counted files p r in
            omega (arith, within, so_many, most))
        | inr own ↦
            let within : own.0 < length s.own_interfaces = slice_get_within s.own_interfaces own.0 d own.2 in
            let size = s.own_interfaces_are.so_many in
            let t = got (interface_texts s.sorted) own.0 (omega (arith, within, size)) in
            let is = s.own_interfaces_are.each own.0 t.0 d t.1 own.2 in
            let name : t.0.name ≡ Some (string_bytes x) = name_in d x t.0.name is.is.name named in
            let i = named_text s.sorted own.0 t.0 (string_bytes x) t.1 name in
            let scope = in_flat interface_of s.sorted i.0 i.1 in (
              i.0,
              flat_has interface_of scopes scope.0 i.0 (out_of_order scopes s.sorted s.are_sorted scope.0 scope.1) scope.2,
              record {
                name = x;
                named = named;
                text = same_Some (string_bytes x) i.0.name.text (sym name ∙ ap (λ (u : InterfaceText). u.name) i.2);
                gates = subst (λ (u : InterfaceText). IsStabilityOf u.attributes d.stability) i.2 is.is.stability;
              },
            )
      ]

  only_world : (k : ℕ) (w : World) → slice_get (own_parts p).worlds k ≡ Some w → (t : WorldScope) × Has (worlds_of scopes) t × IsWorldNamedBy t w
  only_world k w at =
      let n : ℕ = (asked p).worlds + k in
      let behind : slice_get (s.foreign_worlds ++ s.own_worlds) n ≡ Some w = subst (λ (ws : List World). slice_get ws n ≡ Some w) s.worlds_are (get_drop (asked p).worlds p.worlds k w at) in
      elim (get_either s.foreign_worlds s.own_worlds n w behind) as (λ _. (t : WorldScope) × Has (worlds_of scopes) t × IsWorldNamedBy t w) [
        | inl other ↦ absurd (
            let within : n < length s.foreign_worlds = slice_get_within s.foreign_worlds n w other in
            let so_many : length s.foreign_worlds ≡ worlds_in s.items = s.foreign_are.so_many_worlds in
            let most = worlds_are_counted files p r in
            omega (arith, within, so_many, most))
        | inr own ↦
            let within : own.0 < length s.own_worlds = slice_get_within s.own_worlds own.0 w own.2 in
            let size = s.own_worlds_are.so_many in
            let t = got (worlds_of s.sorted) own.0 (omega (arith, within, size)) in
            let is = s.own_worlds_are.each own.0 t.0 w t.1 own.2 in
            let scope = in_flat world_of s.sorted t.0 (own.0, t.1) in
            (t.0, flat_has world_of scopes scope.0 t.0 (out_of_order scopes s.sorted s.are_sorted scope.0 scope.1) scope.2, record { text = is.name; gates = is.stability })
      ]

pub resolved_items : ResolvedPackagesHaveTheirItems
resolved_items files p r = record {
  interfaces = has_interface files p r;
  only_interfaces = only_interface files p r;
  interfaces_apart = interfaces_named_apart files p r;
  owners = (context_of r.resolved.me files r.resolved.items r.resolved.sorted).owners;
  owned = resolved_named files p r;
  worlds_owned = named_worlds (context_of r.resolved.me files r.resolved.items r.resolved.sorted).owners p (resolved_owners files p r);
  worlds = has_world files p r;
  only_worlds = only_world files p r;
  worlds_apart = resolved_worlds_apart files p r;
}

pub moved_items : MovedPackagesHaveTheirItems
moved_items ts p n have = record {
  interfaces = λ t has. (
      let o = have.interfaces t has in record {
        number = o.number;
        made = interface_by (span_at n) o.made;
        there = mapped_at (interface_by (span_at n)) (asked p).interfaces p.interfaces o.number o.made o.there;
        named = record { name = o.named.name; named = o.named.named; text = o.named.text; gates = o.named.gates };
        members = moved_members p n (own_interface p o.number) t.members o.made o.members;
      });
  only_interfaces = λ k d x at named. (
      let o = got_behind (interface_by (span_at n)) (asked p).interfaces p.interfaces k d at in
      let t = have.only_interfaces k o.0 x o.1 (ap (λ (e : Interface). e.name) o.2 ∙ named) in
      (t.0, t.1, subst (IsNamedBy t.0) o.2 (record { name = t.2.name; named = t.2.named; text = t.2.text; gates = t.2.gates })));
  interfaces_apart = moved_named_apart p n have.interfaces_apart;
  owners = have.owners;
  owned = moved_owners_named have.owners p n have.owned;
  worlds_owned = moved_worlds_named n have.owners p have.worlds_owned;
  worlds = λ t has. (
      let o = have.worlds t has in record {
        number = o.number;
        made = world_by (span_at n) o.made;
        there = mapped_at (world_by (span_at n)) (asked p).worlds p.worlds o.number o.made o.there;
        named = record { text = o.named.text; gates = o.named.gates };
        sides = moved_sides p n (own_world p o.number) t.members o.made o.sides;
        paths = moved_paths n have.owners (text_of p.name) t.members o.made o.paths;
        includes = moved_includes n have.owners (text_of p.name) t.members o.made o.includes;
        inners = moved_inners n p t.members o.made o.inners;
      });
  only_worlds = λ k w at. (
      let o = got_behind (world_by (span_at n)) (asked p).worlds p.worlds k w at in
      let t = have.only_worlds k o.0 o.1 in
      (t.0, t.1, subst (IsWorldNamedBy t.0) o.2 (record { text = t.2.text; gates = t.2.gates })));
  worlds_apart = moved_worlds_apart p n have.worlds_apart;
}

-- ---- tables

abbrev HasKey : List Pair → Name → Type 0
HasKey es x = (v : ℕ) × order.Has es (x, v)

-- what has a key still does when one is put, and has the one that is put
put_keeps : (es : List Pair) (k : Name) (v : ℕ) (x : Name) → HasKey es x → HasKey (insert_entry bytes_eq es k v) x
put_keeps [] k v x (u, has) = absurd has
put_keeps (e ∷ es) k v x (u, has) = by (bytes_eq k e.0) (λ h. put_keeps es k v x h)
  where
    by : (b : Bool) → (HasKey es x → HasKey (insert_entry bytes_eq es k v) x) → HasKey (if b then (e.0, v) ∷ es else e ∷ insert_entry bytes_eq es k v) x
    by true later = elim has as (λ _. HasKey ((e.0, v) ∷ es) x) [ inl here ↦ (v, inl (ap (λ (p : Pair). (p.0, v)) here)) | inr there ↦ (u, inr there) ]
    by false later = elim has as (λ _. HasKey (e ∷ insert_entry bytes_eq es k v) x) [ inl here ↦ (u, inl here) | inr there ↦ (let r = later (u, there) in (r.0, inr r.1)) ]

put_has : (es : List Pair) (k : Name) (v : ℕ) → HasKey (insert_entry bytes_eq es k v) k
put_has [] k v = (v, inl refl)
put_has (e ∷ es) k v = by (bytes_eq k e.0) refl (put_has es k v)
  where
    by : (b : Bool) → bytes_eq k e.0 ≡ b → HasKey (insert_entry bytes_eq es k v) k → HasKey (if b then (e.0, v) ∷ es else e ∷ insert_entry bytes_eq es k v) k
    by true same later = (v, inl (ap (λ (y : Name). (y, v)) ((bytes_eq-Decides k e.0).0 same)))
    by false same (u, there) = (u, inr there)

all_keep : (es ps : List Pair) (x : Name) → HasKey es x → HasKey (insert_all bytes_eq es ps) x
all_keep es [] x has = has
all_keep es (p ∷ ps) x has = all_keep (insert_entry bytes_eq es p.0 p.1) ps x (put_keeps es p.0 p.1 x has)

all_have : (es ps : List Pair) (x : Name) → HasKey ps x → HasKey (insert_all bytes_eq es ps) x
all_have es [] x (v, has) = absurd has
all_have es (p ∷ ps) x (v, has) = elim has as (λ _. HasKey (insert_all bytes_eq es (p ∷ ps)) x) [
  | inl here ↦ all_keep (insert_entry bytes_eq es p.0 p.1) ps x (subst (HasKey (insert_entry bytes_eq es p.0 p.1)) (sym (ap (λ (q : Pair). q.0) here)) (put_has es p.0 p.1))
  | inr later ↦ all_have (insert_entry bytes_eq es p.0 p.1) ps x (v, later)
]

listed : (es : List (String Global × ℕ)) (x : Name) → HasKey (map by_bytes es) x → IsListed es x
listed [] x (v, has) = absurd has
listed (e ∷ es) x (v, has) = elim has as (λ _. IsListed (e ∷ es) x) [
  | inl here ↦ (e.0, e.1, has_here e es, sym (ap (λ (q : Pair). q.0) here))
  | inr later ↦ (let r = listed es x (v, later) in (r.0, r.1, has_later e es (r.0, r.1) r.2, r.3))
]

-- ---- a push

pairs_right : (xs ys : List Pair) (x : Name) → HasKey ys x → HasKey (xs ++ ys) x
pairs_right [] ys x has = has
pairs_right (y ∷ xs) ys x has = (let r = pairs_right xs ys x has in (r.0, inr r.1))

interfaces_have : (i : ℕ) (ds : List Interface) (d : Interface) (y : String Global) → Has ds d → d.name ≡ Some y → HasKey (interface_names i ds) (string_bytes y)
interfaces_have i [] d y has named = absurd (has_none d has)
interfaces_have i (e ∷ ds) d y (zero, at) named =
    let name : e.name ≡ Some y = ap (λ (z : Interface). z.name) (same_Some e d at) ∙ named in
    subst (λ (n : Option (String Global)). HasKey (name_at i n ++ interface_names (suc i) ds) (string_bytes y)) (sym name) (i, inl refl)
interfaces_have i (e ∷ ds) d y (suc k, at) named = pairs_right (name_at i e.name) (interface_names (suc i) ds) (string_bytes y) (interfaces_have (suc i) ds d y (k, at) named)

worlds_have : (i : ℕ) (ms : List MovedWorld) (m : MovedWorld) → Has ms m → HasKey (world_names i ms) (string_bytes m.name)
worlds_have i [] m has = absurd (has_none m has)
worlds_have i (e ∷ ms) m (zero, at) = (i, inl (ap (λ (z : MovedWorld). (string_bytes z.name, i)) (sym (same_Some e m at))))
worlds_have i (e ∷ ms) m (suc k, at) = (let r = worlds_have (suc i) ms m (k, at) in (r.0, inr r.1))

-- an entry, by its bytes
entry_has : (es : List (String Global × ℕ)) (e : String Global × ℕ) → Has es e → order.Has (map by_bytes es) (by_bytes e)
entry_has [] e has = absurd (has_none e has)
entry_has (x ∷ es) e (zero, at) = inl (ap by_bytes (sym (same_Some x e at)))
entry_has (x ∷ es) e (suc k, at) = inr (entry_has es e (k, at))

-- a table of these names has each that a pair has
named_listed : (pairs : List Pair) (entries : List (String Global × ℕ)) (x : Name) → AreNames pairs entries → HasKey pairs x → IsListed entries x
named_listed pairs entries x named key = listed entries x (subst (λ (ps : List Pair). HasKey ps x) (sym named) (all_have [] pairs x key))

module _ (features : FeatureSet) (s : Standing) (owner : ℕ) where
  interface_kept : (ds es : List Interface) → AreMovedInterfaces features s owner ds es → (d : Interface) → Has ds d → stays features d.stability ≡ true → (e : Interface) × Has es e × (e.name ≡ d.name)
  interface_kept ds es no_interfaces d has stay = absurd (has_none d has)
  interface_kept ds es (interface_goes f fs gs goes more) d (zero, at) stay = absurd (let bad : true ≡ false = sym stay ∙ (ap (λ (z : Interface). stays features z.stability) (sym (same_Some f d at)) ∙ goes) in cc)
  interface_kept ds es (interface_goes f fs gs goes more) d (suc k, at) stay = interface_kept fs gs more d (k, at) stay
  interface_kept ds es (interface_stays f g fs gs stays_there is more) d (zero, at) stay = (g, has_here g gs, is.name ∙ ap (λ (z : Interface). z.name) (same_Some f d at))
  interface_kept ds es (interface_stays f g fs gs stays_there is more) d (suc k, at) stay = (let r = interface_kept fs gs more d (k, at) stay in (r.0, has_later g gs r.0 r.1, r.2))

  -- each was one that stays
  interface_was : (ds es : List Interface) → AreMovedInterfaces features s owner ds es → (j : ℕ) (e : Interface) → slice_get es j ≡ Some e → (k : ℕ) × (d : Interface) × (slice_get ds k ≡ Some d) × (stays features d.stability ≡ true) × IsMovedInterface features s.types owner d e
  interface_was ds es no_interfaces j e at = absurd cc
  interface_was ds es (interface_goes f fs gs goes more) j e at = (let r = interface_was fs gs more j e at in (suc r.0, r.1, r.2, r.3, r.4))
  interface_was ds es (interface_stays f g fs gs stays_there is more) zero e at = (zero, f, refl, stays_there, subst (IsMovedInterface features s.types owner f) (same_Some g e at) is)
  interface_was ds es (interface_stays f g fs gs stays_there is more) (suc j) e at = (let r = interface_was fs gs more j e at in (suc r.0, r.1, r.2, r.3, r.4))

  world_kept : (ws : List World) (ms : List MovedWorld) → AreMovedWorlds features s ws ms → (w : World) → Has ws w → stays features w.stability ≡ true → (m : MovedWorld) × Has ms m × (m.name ≡ w.name)
  world_kept ws ms no_worlds w has stay = absurd (has_none w has)
  world_kept ws ms (world_goes v vs ns goes more) w (zero, at) stay = absurd (let bad : true ≡ false = sym stay ∙ (ap (λ (z : World). stays features z.stability) (sym (same_Some v w at)) ∙ goes) in cc)
  world_kept ws ms (world_goes v vs ns goes more) w (suc k, at) stay = world_kept vs ns more w (k, at) stay
  world_kept ws ms (world_stays v n vs ns stays_there is more) w (zero, at) stay = (n, has_here n ns, is.name ∙ ap (λ (z : World). z.name) (same_Some v w at))
  world_kept ws ms (world_stays v n vs ns stays_there is more) w (suc k, at) stay = (let r = world_kept vs ns more w (k, at) stay in (r.0, has_later n ns r.0 r.1, r.2))

-- a pair is of one of these interfaces, and has its name
record IsPairOf (first : ℕ) (ds : List Interface) (e : Pair) : Type 0 where
  number : ℕ
  number_is : e.1 ≡ first + number
  made : Interface
  there : slice_get ds number ≡ Some made
  name : String Global
  named : made.name ≡ Some name
  text : string_bytes name ≡ e.0

pairs_of : (first : ℕ) (ds : List Interface) (e : Pair) → order.Has (interface_names first ds) e → IsPairOf first ds e
pairs_of first [] e has = absurd has
pairs_of first (d ∷ ds) e has = by d.name refl has (pairs_of (suc first) ds e)
  where
    later : IsPairOf (suc first) ds e → IsPairOf first (d ∷ ds) e
    later r = record { number = suc r.number; number_is = (let n = r.number_is in omega (arith, n)); made = r.made; there = r.there; name = r.name; named = r.named; text = r.text }

    by : (n : Option (String Global)) → d.name ≡ n → order.Has (name_at first n ++ interface_names (suc first) ds) e → (order.Has (interface_names (suc first) ds) e → IsPairOf (suc first) ds e) → IsPairOf first (d ∷ ds) e
    by None is h more = later (more h)
    by (Some x) is h more = elim h as (λ _. IsPairOf first (d ∷ ds) e) [
      | inl here ↦ record { number = 0; number_is = ap (λ (q : Pair). q.1) here ∙ omega arith; made = d; there = refl; name = x; named = is; text = sym (ap (λ (q : Pair). q.0) here) }
      | inr rest ↦ later (more rest)
    ]

-- and so of worlds
record IsWorldPair (first : ℕ) (ms : List MovedWorld) (e : Pair) : Type 0 where
  number : ℕ
  number_is : e.1 ≡ first + number
  made : MovedWorld
  there : slice_get ms number ≡ Some made
  text : string_bytes made.name ≡ e.0

world_pairs : (first : ℕ) (ms : List MovedWorld) (e : Pair) → order.Has (world_names first ms) e → IsWorldPair first ms e
world_pairs first [] e has = absurd has
world_pairs first (m ∷ ms) e has = elim has as (λ _. IsWorldPair first (m ∷ ms) e) [
  | inl here ↦ record { number = 0; number_is = ap (λ (q : Pair). q.1) here ∙ omega arith; made = m; there = refl; text = sym (ap (λ (q : Pair). q.0) here) }
  | inr rest ↦ (let r = world_pairs (suc first) ms e rest in record { number = suc r.number; number_is = (let n = r.number_is in omega (arith, n)); made = r.made; there = r.there; text = r.text })
]

-- what a path names has a name
target_named : (me : PackageText) (t : TargetTree) → (x : Name) × ((target_owner me in_interface t).place ≡ in_interface x)
target_named me (target.own n) = (n.text, refl)
target_named me (target.foreign p n) = (n.text, refl)

world_named : (me : PackageText) (t : TargetTree) → (x : Name) × ((target_owner me in_world t).place ≡ in_world x)
world_named me (target.own n) = (n.text, refl)
world_named me (target.foreign p n) = (n.text, refl)

module _ (ts : List ItemScope) (eq : PackageName → PackageName → Bool) (features : FeatureSet) (old : Graph) (p : UnresolvedPackage) (new : Graph) (id : ℕ) (tells : TellsNamesApart eq) (stand : NamesOfGraphStand old) (have : HasItems ts p) (h : IsPushed eq features old p new id) where
  abbrev names : List (String Global × ℕ)
  names = h.put.added.interface_names

  abbrev base : ℕ
  base = length old.tables.interfaces.all

  abbrev so_many : length h.foreign.interfaces ≡ (asked p).interfaces
  so_many = h.are_places.found.interfaces_are.all

  -- an interface of the package's own that has this name stands under it by its id
  record IsListedOwn (k : ℕ) (d : Interface) (y : String Global) : Type 0 where
    name : String Global
    interface_id : ℕ
    listed : Has names (name, interface_id)
    text : string_bytes name ≡ string_bytes y
    made : Interface
    there : slice_get new.tables.interfaces.all interface_id ≡ Some made
    is : IsMovedInterface features h.places (length old.tables.packages) d made
    stands : place_of h.owners.interfaces ((asked p).interfaces + k) ≡ Some interface_id

  own_listed : (k : ℕ) (d : Interface) (y : String Global) → slice_get (own_parts p).interfaces k ≡ Some d → d.name ≡ Some y → stays features d.stability ≡ true → IsListedOwn k d y
  own_listed k d y at named kept =
      let own = h.put.added.parts.own_interfaces in
      let e = interface_kept features (standing h.owners h.places) (length old.tables.packages) (own_parts p).interfaces own.moved own.are_moved d (k, at) kept in
      let key : HasKey (interface_names base own.moved) (string_bytes y) = interfaces_have base own.moved e.0 y e.1 (e.2 ∙ named) in
      let row = named_listed (interface_names base own.moved) names (string_bytes y) own.named key in
      let pair = table_so (IsPairOf base own.moved) (interface_names base own.moved) names own.named (pairs_of base own.moved) (row.0, row.1) (entry_has names (row.0, row.1) row.2) in
      let was = interface_from features (standing h.owners h.places) (length old.tables.packages) h.foreign.interfaces base (own_parts p).interfaces own.moved own.are_moved pair.number pair.made pair.there in
      let is = was.moved in
      let one : was.place ≡ k = have.interfaces_apart was.place k was.old d pair.name y was.was at (sym is.name ∙ pair.named) named (pair.text ∙ row.3) in
      let same : was.old ≡ d = same_Some was.old d (sym was.was ∙ ap (slice_get (own_parts p).interfaces) one ∙ at) in
      let behind : slice_get (old.tables.interfaces.all ++ own.moved) (base + pair.number) ≡ Some pair.made = get_right old.tables.interfaces.all own.moved pair.number pair.made pair.there in
      record {
        name = row.0;
        interface_id = row.1;
        listed = row.2;
        text = row.3;
        made = pair.made;
        there = ap (slice_get new.tables.interfaces.all) pair.number_is ∙ (ap (λ (ds : List Interface). slice_get ds (base + pair.number)) own.added.all_are ∙ behind);
        is = subst (λ (x : Interface). IsMovedInterface features h.places (length old.tables.packages) x pair.made) same is;
        stands =
            ap (λ (o : OwnerPlaces). place_of o.interfaces ((asked p).interfaces + k)) h.are_places.planned.owners_are
            ∙ ap (place_of (interface_places features h.foreign.interfaces base (own_parts p).interfaces)) (ap (λ (m : ℕ). m + k) (sym so_many) ∙ ap (λ (m : ℕ). length h.foreign.interfaces + m) (sym one)) ∙ was.stands
            ∙ ap (λ (m : ℕ). Some m) (sym pair.number_is);
      }

  -- one that stays is there by its id, also where it has no name
  record IsThereOwn (k : ℕ) (d : Interface) : Type 0 where
    interface_id : ℕ
    made : Interface
    there : slice_get new.tables.interfaces.all interface_id ≡ Some made
    is : IsMovedInterface features h.places (length old.tables.packages) d made
    stands : place_of h.owners.interfaces ((asked p).interfaces + k) ≡ Some interface_id

  own_there : (k : ℕ) (d : Interface) → slice_get (own_parts p).interfaces k ≡ Some d → stays features d.stability ≡ true → IsThereOwn k d
  own_there k d at kept =
      let own = h.put.added.parts.own_interfaces in
      let m = stands_moved features (standing h.owners h.places) (length old.tables.packages) (record { places = h.foreign.interfaces; next = base }) (own_parts p).interfaces own.moved own.are_moved k d at kept in
      record {
        interface_id = base + m.number;
        made = m.made;
        there = ap (λ (ds : List Interface). slice_get ds (base + m.number)) own.added.all_are ∙ get_right old.tables.interfaces.all own.moved m.number m.made m.there;
        is = m.is;
        stands =
            ap (λ (o : OwnerPlaces). place_of o.interfaces ((asked p).interfaces + k)) h.are_places.planned.owners_are
            ∙ ap (place_of (interface_places features h.foreign.interfaces base (own_parts p).interfaces)) (ap (λ (n : ℕ). n + k) (sym so_many)) ∙ m.stands;
      }

  interface_listed : (t : InterfaceScope) → Has (interfaces_of ts) t → Stays features t.attributes → ListsInterface features t h.put.added.q new.tables.interfaces.all
  interface_listed t has stay =
      let o = have.interfaces t has in
      let kept : stays features o.made.stability ≡ true = stay o.made.stability o.named.gates in
      let l = own_listed o.number o.made o.named.name o.there o.named.named kept in
      record {
        name = l.name;
        interface_id = l.interface_id;
        listed = subst (λ (es : List (String Global × ℕ)). Has es (l.name, l.interface_id)) (sym h.put.added.is_package.interfaces_are) l.listed;
        text = l.text ∙ o.named.text;
        made = l.made;
        there = l.there;
        members = members_listed features old.tables.interfaces.all (sizes (items_of old.tables)) h.foreign h.owners p h.places h.are_places.planned so_many t.members o.number (length old.tables.packages) o.made l.made o.there kept o.members l.is;
      }

  -- the package has the text of its name
  text_is_kept : text_of p.name ≡ text_of h.put.added.q.name
  text_is_kept = same_text p.name h.put.same h.put.is_same ∙ ap text_of (sym h.put.added.is_package.name_is)

  -- what has a place is in the package of its name
  path_listed : (w : Owner) (x : Name) (i k : ℕ) → slice_get have.owners.interfaces i ≡ Some w → w.place ≡ in_interface x → place_of h.owners.interfaces i ≡ Some k → IsInterfaceOf new.tables.packages w k
  path_listed w x i k owner place at = elim (cases_lt i (length h.foreign.interfaces)) as (λ _. IsInterfaceOf new.tables.packages w k) [
    | inl less ↦
        let found : place_of h.foreign.interfaces i ≡ Some k = others_stay features h.foreign.interfaces base gates i k less placed_at in
        let by_name = asked_found eq features old.names old.tables.packages have.owners p h.foreign.interfaces h.foreign.worlds tells stand have.owned.asks h.are_places.found in
        let f = by_name.interfaces_are i k found in
        let same : f.0 ≡ w = same_Some f.0 w (sym f.1 ∙ owner) in
        let was = subst (λ (v : Owner). IsInterfaceOf old.tables.packages v k) same f.2 in
        record {
          «package» = was.«package»;
          there = subst (λ (qs : List Package). Has qs was.«package») (sym h.put.added.packages_are) (has_left old.tables.packages (h.put.added.q ∷ []) was.«package» was.there);
          text = was.text;
          name = was.name;
          listed = was.listed;
          place_is = was.place_is;
        }
    | inr past ↦
        let n = rest (length h.foreign.interfaces) i past in
        let number : i ≡ (asked p).interfaces + n.0 = n.1 ∙ ap (λ (m : ℕ). m + n.0) so_many in
        let o = have.owned.own n.0 w x (ap (slice_get have.owners.interfaces) (sym number) ∙ owner) place in
        let gate : slice_get gates n.0 ≡ Some o.made.stability = slice_get-map (λ (d : Interface). d.stability) (own_parts p).interfaces n.0 ∙ ap (option_map (λ (d : Interface). d.stability)) o.there in
        let stay : stays features o.made.stability ≡ true =
        sym (own_placed features (record { places = h.foreign.interfaces; next = base }) gates n.0 o.made.stability gate) ∙ ap is_some (ap (place_of (interface_places features h.foreign.interfaces base (own_parts p).interfaces)) (sym n.1) ∙ placed_at) in
        let l = own_listed n.0 o.made o.name o.there o.named stay in
        let same : l.interface_id ≡ k = same_Some l.interface_id k (sym l.stands ∙ ap (place_of h.owners.interfaces) (sym number) ∙ at) in
        record {
          «package» = h.put.added.q;
          there = subst (λ (qs : List Package). Has qs h.put.added.q) (sym h.put.added.packages_are) (has_right old.tables.packages (h.put.added.q ∷ []) h.put.added.q (0, refl));
          text = o.package_is ∙ text_is_kept;
          name = l.name;
          listed = subst (λ (m : ℕ). Has h.put.added.q.interfaces.entries (l.name, m)) same (subst (λ (es : List (String Global × ℕ)). Has es (l.name, l.interface_id)) (sym h.put.added.is_package.interfaces_are) l.listed);
          place_is = place ∙ ap in_interface (sym (l.text ∙ o.text));
        }
  ]
    where
      gates : List Stability
      gates = map (λ (d : Interface). d.stability) (own_parts p).interfaces

      placed_at : place_of (interface_places features h.foreign.interfaces base (own_parts p).interfaces) i ≡ Some k
      placed_at = ap (λ (o : OwnerPlaces). place_of o.interfaces i) (sym h.are_places.planned.owners_are) ∙ at

  paths_listed : (ms : List WorldMemberTree) (es all : List Entry) → ArePlacedPaths features h.owners have.owners (text_of p.name) ms es → KeepsKnown es all → ListsPaths features new.tables.packages (text_of h.put.added.q.name) ms all
  paths_listed ms es all are keeps l t has same stay =
      let o = are l t has same stay in
      let x = target_named (text_of p.name) t in
      let k : ℕ = to h.owners.interfaces o.interface_id in
      let is = path_listed (target_owner (text_of p.name) in_interface t) x.0 o.interface_id k o.owner x.1 o.stands in
      (k, keeps (placed k) o.known_is, subst (λ (m : PackageText). IsInterfaceOf new.tables.packages (target_owner m in_interface t) k) text_is_kept is)

  inners_listed : (ms : List WorldMemberTree) (es kept all : List Entry) → IsMovedSide features h.places h.owners.interfaces es kept → KeepsLabels kept all → HasInners p ms es → ListsInners features new.tables.interfaces.all ms all
  inners_listed ms es kept all moved keeps are l ns has kind stay =
      let o = are l ns has kind in
      let gate : stays features o.made.stability ≡ true = stay o.made.stability o.own_gates in
      let d = own_there o.number o.made o.there gate in
      let at = moved_at features h.places h.owners.interfaces es kept moved o.key ((asked p).interfaces + o.number) o.gates o.at l.name.text o.listed (stay o.gates o.same) o.label in
      let id = goes_there h.owners.interfaces ((asked p).interfaces + o.number) d.interface_id d.stands in
      record {
        interface_id = d.interface_id;
        listed = interface_kept_at kept all keeps l.name.text d.interface_id (subst (HasInterfaceAt kept l.name.text) id at);
        made = d.made;
        there = d.there;
        members = members_listed features old.tables.interfaces.all (sizes (items_of old.tables)) h.foreign h.owners p h.places h.are_places.planned so_many ns o.number (length old.tables.packages) o.made d.made o.there gate o.members d.is;
      }

  abbrev first : ℕ
  first = length old.tables.worlds.listed

  abbrev world_gates : List Stability
  world_gates = map (λ (w : World). w.stability) (own_parts p).worlds

  -- a world of the package's own that stays stands under its name by its id
  record IsWorldListed (k : ℕ) (w : World) : Type 0 where
    name : String Global
    world_id : ℕ
    listed : Has h.put.added.world_names (name, world_id)
    text : string_bytes name ≡ string_bytes w.name
    number : ℕ
    number_is : world_id ≡ first + number
    made : MovedWorld
    there : slice_get h.put.added.parts.own_worlds.moved number ≡ Some made
    is : IsMovedWorld features (standing h.owners h.places) w made
    stands : place_of h.owners.worlds ((asked p).worlds + k) ≡ Some world_id

  own_world_listed : (k : ℕ) (w : World) → slice_get (own_parts p).worlds k ≡ Some w → stays features w.stability ≡ true → IsWorldListed k w
  own_world_listed k w at kept =
      let own = h.put.added.parts.own_worlds in
      let m = world_kept features (standing h.owners h.places) (length old.tables.packages) (own_parts p).worlds own.moved own.are_moved w (k, at) kept in
      let key : HasKey (world_names first own.moved) (string_bytes w.name) = subst (HasKey (world_names first own.moved)) (ap string_bytes m.2) (worlds_have first own.moved m.0 m.1) in
      let row = named_listed (world_names first own.moved) h.put.added.world_names (string_bytes w.name) own.named key in
      let pair = table_so (IsWorldPair first own.moved) (world_names first own.moved) h.put.added.world_names own.named (world_pairs first own.moved) (row.0, row.1) (entry_has h.put.added.world_names (row.0, row.1) row.2) in
      let was = world_from features (standing h.owners h.places) (record { places = h.foreign.worlds; next = first }) (own_parts p).worlds own.moved own.are_moved pair.number pair.made pair.there in
      let named : string_bytes was.old.name ≡ string_bytes w.name = ap string_bytes (sym was.moved.name) ∙ pair.text ∙ row.3 in
      let one : was.place ≡ k = have.worlds_apart was.place k was.old w was.was at named in
      let same : was.old ≡ w = same_Some was.old w (sym was.was ∙ ap (slice_get (own_parts p).worlds) one ∙ at) in
      record {
        name = row.0;
        world_id = row.1;
        listed = row.2;
        text = row.3;
        number = pair.number;
        number_is = pair.number_is;
        made = pair.made;
        there = pair.there;
        is = subst (λ (v : World). IsMovedWorld features (standing h.owners h.places) v pair.made) same was.moved;
        stands =
            ap (λ (o : OwnerPlaces). place_of o.worlds ((asked p).worlds + k)) h.are_places.planned.owners_are
            ∙ ap (place_of (world_places features h.foreign.worlds first (own_parts p).worlds)) (ap (λ (n : ℕ). n + k) (sym so_many_worlds) ∙ ap (λ (n : ℕ). length h.foreign.worlds + n) (sym one)) ∙ was.stands
            ∙ ap (λ (n : ℕ). Some n) (sym pair.number_is);
      }
    where
      so_many_worlds : length h.foreign.worlds ≡ (asked p).worlds
      so_many_worlds = h.are_places.found.worlds_are.all

  -- a world that has a place is in the package of its name
  included_listed : (w : Owner) (x : Name) (i k : ℕ) → slice_get have.owners.worlds i ≡ Some w → w.place ≡ in_world x → place_of h.owners.worlds i ≡ Some k → IsWorldOf new.tables.packages w k
  included_listed w x i k owner place at = elim (cases_lt i (length h.foreign.worlds)) as (λ _. IsWorldOf new.tables.packages w k) [
    | inl less ↦
        let found : place_of h.foreign.worlds i ≡ Some k = others_stay features h.foreign.worlds first world_gates i k less placed_at in
        let by_name = asked_found eq features old.names old.tables.packages have.owners p h.foreign.interfaces h.foreign.worlds tells stand have.owned.asks h.are_places.found in
        let f = by_name.worlds_are i k found in
        let same : f.0 ≡ w = same_Some f.0 w (sym f.1 ∙ owner) in
        let was = subst (λ (v : Owner). IsWorldOf old.tables.packages v k) same f.2 in
        record {
          «package» = was.«package»;
          there = subst (λ (qs : List Package). Has qs was.«package») (sym h.put.added.packages_are) (has_left old.tables.packages (h.put.added.q ∷ []) was.«package» was.there);
          text = was.text;
          name = was.name;
          listed = was.listed;
          place_is = was.place_is;
        }
    | inr past ↦
        let n = rest (length h.foreign.worlds) i past in
        let number : i ≡ (asked p).worlds + n.0 = n.1 ∙ ap (λ (m : ℕ). m + n.0) h.are_places.found.worlds_are.all in
        let o = have.worlds_owned n.0 w x (ap (slice_get have.owners.worlds) (sym number) ∙ owner) place in
        let gate : slice_get world_gates n.0 ≡ Some o.made.stability = slice_get-map (λ (v : World). v.stability) (own_parts p).worlds n.0 ∙ ap (option_map (λ (v : World). v.stability)) o.there in
        let stay : stays features o.made.stability ≡ true =
        sym (own_placed features (record { places = h.foreign.worlds; next = first }) world_gates n.0 o.made.stability gate) ∙ ap is_some (ap (place_of (world_places features h.foreign.worlds first (own_parts p).worlds)) (sym n.1) ∙ placed_at) in
        let l = own_world_listed n.0 o.made o.there stay in
        let same : l.world_id ≡ k = same_Some l.world_id k (sym l.stands ∙ ap (place_of h.owners.worlds) (sym number) ∙ at) in
        record {
          «package» = h.put.added.q;
          there = subst (λ (qs : List Package). Has qs h.put.added.q) (sym h.put.added.packages_are) (has_right old.tables.packages (h.put.added.q ∷ []) h.put.added.q (0, refl));
          text = o.package_is ∙ text_is_kept;
          name = l.name;
          listed = subst (λ (m : ℕ). Has h.put.added.q.worlds.entries (l.name, m)) same (subst (λ (es : List (String Global × ℕ)). Has es (l.name, l.world_id)) (sym h.put.added.is_package.worlds_are) l.listed);
          place_is = place ∙ ap in_world (sym (l.text ∙ o.text));
        }
  ]
    where
      placed_at : place_of (world_places features h.foreign.worlds first (own_parts p).worlds) i ≡ Some k
      placed_at = ap (λ (o : OwnerPlaces). place_of o.worlds i) (sym h.are_places.planned.owners_are) ∙ at

  world_listed : (t : WorldScope) → Has (worlds_of ts) t → Stays features t.attributes → ListsWorld features t h.put.added.q new.tables
  world_listed t has stay =
      let o = have.worlds t has in
      let kept : stays features o.made.stability ≡ true = stay o.made.stability o.named.gates in
      let l = own_world_listed o.number o.made o.there kept in
      let sides = sides_kept features old.tables.interfaces.all (sizes (items_of old.tables)) h.foreign h.owners p h.places h.are_places.planned h.are_places.found.worlds_are.all t.members o.number o.made l.made o.there kept o.sides l.is in
      let paths = path_placed features old.tables.interfaces.all (sizes (items_of old.tables)) h.foreign h.owners p h.places h.are_places.planned have.owners (text_of p.name) o.number o.made l.made o.there kept l.is t.members o.paths in
      let includes = include_placed features old.tables.interfaces.all (sizes (items_of old.tables)) h.foreign h.owners p h.places h.are_places.planned have.owners (text_of p.name) o.number o.made l.made o.there kept l.is t.members o.includes in
      let w = world_there _ _ (length old.tables.packages) h.put.added.parts.own_worlds.moved _ _ h.put.added.parts.own_worlds.added l.number l.made l.there in
      record {
        name = l.name;
        world_id = l.world_id;
        listed = subst (λ (es : List (String Global × ℕ)). Has es (l.name, l.world_id)) (sym h.put.added.is_package.worlds_are) l.listed;
        text = l.text ∙ o.named.text;
        made = w.0;
        there = ap (slice_get new.tables.worlds.listed) l.number_is ∙ w.1;
        sides = sides_of features t.members l.made.imports.items l.made.exports.items w.0.imports.entries w.0.exports.entries w.2.import_labels w.2.export_labels sides;
        paths = record {
          imports_are = paths_listed (side_members Import t.members) l.made.imports.items w.0.imports.entries paths.imports_are w.2.imports;
          exports_are = paths_listed (side_members Export t.members) l.made.exports.items w.0.exports.entries paths.exports_are w.2.exports;
        };
        inners = record {
          imports_are = inners_listed (side_members Import t.members) o.made.imports.entries l.made.imports.items w.0.imports.entries l.is.imports w.2.import_labels o.inners.imports_are;
          exports_are = inners_listed (side_members Export t.members) o.made.exports.entries l.made.exports.items w.0.exports.entries l.is.exports w.2.export_labels o.inners.exports_are;
        };
        includes = λ i i_has keep. (
            let n = includes i i_has keep in
            let b = w.2.includes n.one n.listed in
            let x = world_named (text_of p.name) i.world in
            let is = included_listed (target_owner (text_of p.name) in_world i.world) x.0 n.world_id (to h.owners.worlds n.world_id) n.owner x.1 n.stands in
            record {
              world_id = to h.owners.worlds n.world_id;
              is = subst (λ (m : PackageText). IsWorldOf new.tables.packages (target_owner m in_world i.world) (to h.owners.worlds n.world_id)) text_is_kept is;
              included = b.included;
              there = ap (slice_get new.tables.worlds.listed) (sym n.id_is) ∙ b.there;
              names = n.one.names.items;
              names_are = n.names_are;
              imports_are = b.imports;
              exports_are = b.exports;
            });
      }

  -- what stands under a name is of a text, and stays
  only_interface_listed : (e : String Global × ℕ) → Has h.put.added.q.interfaces.entries e → (i : InterfaceScope) × Has (interfaces_of ts) i × (string_bytes e.0 ≡ i.name.text) × Remains features i.attributes
  only_interface_listed e has =
      let own = h.put.added.parts.own_interfaces in
      let at : Has names e = subst (λ (es : List (String Global × ℕ)). Has es e) h.put.added.is_package.interfaces_are has in
      let pair = table_so (IsPairOf base own.moved) (interface_names base own.moved) names own.named (pairs_of base own.moved) e (entry_has names e at) in
      let was = interface_from features (standing h.owners h.places) (length old.tables.packages) h.foreign.interfaces base (own_parts p).interfaces own.moved own.are_moved pair.number pair.made pair.there in
      let named : was.old.name ≡ Some pair.name = sym was.moved.name ∙ pair.named in
      let t = have.only_interfaces was.place was.old pair.name was.was named in
      (t.0, t.1, sym pair.text ∙ ap string_bytes (same_Some pair.name t.2.name (sym named ∙ t.2.named)) ∙ t.2.text, (was.old.stability, t.2.gates, was.kept))

  only_world_listed : (e : String Global × ℕ) → Has h.put.added.q.worlds.entries e → (w : WorldScope) × Has (worlds_of ts) w × (string_bytes e.0 ≡ w.name.text) × Remains features w.attributes
  only_world_listed e has =
      let own = h.put.added.parts.own_worlds in
      let at : Has h.put.added.world_names e = subst (λ (es : List (String Global × ℕ)). Has es e) h.put.added.is_package.worlds_are has in
      let pair = table_so (IsWorldPair first own.moved) (world_names first own.moved) h.put.added.world_names own.named (world_pairs first own.moved) e (entry_has h.put.added.world_names e at) in
      let was = world_from features (standing h.owners h.places) (record { places = h.foreign.worlds; next = first }) (own_parts p).worlds own.moved own.are_moved pair.number pair.made pair.there in
      let t = have.only_worlds was.place was.old was.was in
      (t.0, t.1, sym pair.text ∙ ap string_bytes was.moved.name ∙ t.2.text, (was.old.stability, t.2.gates, was.kept))

pub pushed_items : PushedPackagesListTheirItems
pushed_items ts eq features old p new id tells stand have h = record {
  interfaces_are = interface_listed ts eq features old p new id tells stand have h;
  only_interfaces = only_interface_listed ts eq features old p new id tells stand have h;
  worlds_are = world_listed ts eq features old p new id tells stand have h;
  only_worlds = only_world_listed ts eq features old p new id tells stand have h;
}
