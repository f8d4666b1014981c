-- A graph with a package that came to it has owners of all that it holds.
use Rattle.std.proofs.Common.{◌≡◌, ◌<◌, ℕ, ◌+◌, suc, Bool, true, List, [], ◌∷◌, ◌++◌, map, length, length-append, drop, Option, Some, None, inl, inr, refl, sym, subst, ap, ◌∙◌, arith}
use Rattle.std.proofs.lemmas.Option.{same_Some, slice_get_within}
use Rattle.std.specs.Prelude.{String, if◌then◌else◌, string_bytes, slice_get}
use Rattle.std.specs.declared.alloc.Global.{Global}
use Rattle.wit_order.specs.Order as order
use Rattle.wit_order.specs.Places.{Rows}
use Rattle.wit_types.specs.declared.interface.Interface.{Interface}
use Rattle.wit_types.specs.declared.interface.TypeOwner.{TypeOwner}
use Rattle.wit_types.specs.declared.interface.TypeOwner.TheVariants as belongs
use Rattle.wit_types.specs.declared.stability.Stability.{Stability}
use Rattle.wit_types.specs.declared.«package».Package.{Package}
use Rattle.wit_types.specs.declared.«package».PackageName.{PackageName}
use Rattle.wit_types.specs.declared.«package».UnresolvedPackage.{UnresolvedPackage}
use Rattle.wit_types.specs.declared.world.World.{World}
use Rattle.wit_features.specs.Features.{FeatureSet}
use Rattle.wit_moves.specs.Moved.{place_of, to}
use Rattle.wit_moves.specs.Plan.{OwnerPlaces, is_owner_placed, moved_owner}
use Rattle.wit_finding.specs.Own.{placed}
use Rattle.wit_graph.proofs.Passed.wit_placed-Finding.{has_or}
use Rattle.wit_graph.proofs.Passed.wit_placed-Holding.{goes_to}
use Rattle.wit_graph.proofs.Passed.wit_placed-Members.{has_get}
use Rattle.wit_graph.proofs.Passed.wit_placed-Own.{interface_from, worlds_take_places_alone}
use Rattle.wit_plans.specs.Checks.{Standing}
use Rattle.wit_plans.specs.Moves.{AreMovedInterfaces, no_interfaces, interface_goes, interface_stays, AreMovedWorlds, no_worlds, world_goes, world_stays}
use Rattle.wit_plans.specs.Plans.{standing}
use Rattle.wit_plans.specs.declared.moves.MovedWorld.{MovedWorld}
use Rattle.wit_graph.specs.Passed.wit_graph_worlds-Added.{AreAdded, none_added, one_added}
use Rattle.wit_graph.specs.Passed.wit_graph_worlds-Names.{Pair, AreNames, by_bytes, name_at, interface_names, world_names}
use Rattle.wit_graph.specs.Passed.wit_graph_worlds-Worlds.{State}
use Rattle.wit_graph.specs.Passed.wit_graph_parts-Own.{asked, own_parts}
use Rattle.wit_graph.specs.Graph.{Graph}
use Rattle.wit_graph.specs.Push.{IsPushed}
use Rattle.wit_arena.specs.Tree.{Name, PackageText, Place, in_interface, in_world, Owner}
use Rattle.wit_arena.specs.Unfold.{Owners, owner_of}
use Rattle.wit_arena.specs.Meaning.{Has}
use Rattle.wit_arena.proofs.Lists.{has_none, has_here, has_right, has_map, get_kept, get_more}
use Rattle.wit_well_formed.proofs.Passed.wit_interfaces-Behind.{get_either}
use Rattle.wit_reach.proofs.Holding.{got}
use Rattle.wit_pushed_trees.specs.Apart.{IsWorldIn, AreWorldsApart, AreWorldsNamedApart, IsNewText}
use Rattle.wit_pushed_trees.specs.Asked.{text_of}
use Rattle.wit_pushed_trees.specs.Found.{TellsNamesApart, NamesOfGraphStand, IsInterfaceOf, IsWorldOf, AreFoundByName}
use Rattle.wit_pushed_trees.specs.Owned.{AreOwnersOf, AreOwned, EmptyGraphsAreOwned, PushedGraphsAreOwned}
use Rattle.wit_pushed_trees.proofs.Finding.{asked_found, same_text}
use Rattle.wit_pushed_trees.proofs.Apart.{world_place, AreApart, kept_was, kept_apart}
use Rattle.wit_pushed_trees.proofs.Tables.{names_apart, tables_pushed}
use Rattle.wit_pushed_trees.proofs.Owning.{same_drop, dropped, kept_owners, owner_there, table_so}

pub empty_owned : EmptyGraphsAreOwned
empty_owned = record {
  so_many_interfaces = refl;
  so_many_worlds = refl;
  interfaces_are = λ w j is. absurd (has_none is.«package» is.there);
  worlds_are = λ w j is. absurd (has_none is.«package» is.there);
  apart = record { apart = λ i j w at_i at_j. absurd cc; worlds_are = λ i w at. absurd cc; interfaces_are = λ i w x at. absurd cc };
  tables = record { packages_are = λ i j q r at_i at_j. absurd cc; interfaces_are = λ q has. absurd (has_none q has); worlds_are = λ q has. absurd (has_none q has) };
}

same_owner : (w : Owner) (t : PackageText) (o : Place) → w.package_text ≡ t → w.place ≡ o → record { package_text = t; place = o } ≡ w
same_owner w t o e f = subst (λ (x : PackageText). record { package_text = x; place = o } ≡ w) e (subst (λ (x : Place). record { package_text = w.package_text; place = x } ≡ w) f refl)

-- ---- so many

abbrev interface_gate : Interface → Stability
interface_gate d = d.stability

abbrev world_gate : World → Stability
world_gate w = w.stability

interfaces_kept : (features : FeatureSet) (s : Standing) (owner : ℕ) (ds es : List Interface) (os : List Owner) → AreMovedInterfaces features s owner ds es → length os ≡ length ds → length (kept_owners features interface_gate ds os) ≡ length es
interfaces_kept features s owner _ _ os no_interfaces e = refl
interfaces_kept features s owner _ _ [] (interface_goes d ds es st rest) e = absurd (omega (arith, e))
interfaces_kept features s owner _ _ (o ∷ os) (interface_goes d ds es st rest) e =
    ap (λ (b : Bool). length (if b then o ∷ kept_owners features interface_gate ds os else kept_owners features interface_gate ds os)) st ∙ interfaces_kept features s owner ds es os rest (omega (arith, e))
interfaces_kept features s owner _ _ [] (interface_stays d g ds es st is rest) e = absurd (omega (arith, e))
interfaces_kept features s owner _ _ (o ∷ os) (interface_stays d g ds es st is rest) e =
    let r = interfaces_kept features s owner ds es os rest (omega (arith, e)) in
    ap (λ (b : Bool). length (if b then o ∷ kept_owners features interface_gate ds os else kept_owners features interface_gate ds os)) st ∙ (let q : length (o ∷ kept_owners features interface_gate ds os) ≡ length (g ∷ es) = omega (arith, r) in q)

worlds_kept : (features : FeatureSet) (s : Standing) (ws : List World) (ms : List MovedWorld) (os : List Owner) → AreMovedWorlds features s ws ms → length os ≡ length ws → length (kept_owners features world_gate ws os) ≡ length ms
worlds_kept features s _ _ os no_worlds e = refl
worlds_kept features s _ _ [] (world_goes w ws ms st rest) e = absurd (omega (arith, e))
worlds_kept features s _ _ (o ∷ os) (world_goes w ws ms st rest) e =
    ap (λ (b : Bool). length (if b then o ∷ kept_owners features world_gate ws os else kept_owners features world_gate ws os)) st ∙ worlds_kept features s ws ms os rest (omega (arith, e))
worlds_kept features s _ _ [] (world_stays w m ws ms st is rest) e = absurd (omega (arith, e))
worlds_kept features s _ _ (o ∷ os) (world_stays w m ws ms st is rest) e =
    let r = worlds_kept features s ws ms os rest (omega (arith, e)) in
    ap (λ (b : Bool). length (if b then o ∷ kept_owners features world_gate ws os else kept_owners features world_gate ws os)) st ∙ (let q : length (o ∷ kept_owners features world_gate ws os) ≡ length (m ∷ ms) = omega (arith, r) in q)

pub worlds_added : (interfaces : List Interface) (uses : Rows) (owner : ℕ) (ms : List MovedWorld) (s t : State) → AreAdded interfaces uses owner ms s t → length t.worlds.listed ≡ length s.worlds.listed + length ms
worlds_added interfaces uses owner _ s _ (none_added _) = omega arith
worlds_added interfaces uses owner _ s u (one_added ms m _ t _ before a) =
    let r = worlds_added interfaces uses owner ms s t before in
    let one : length u.worlds.listed ≡ length t.worlds.listed + 1 = ap length a.listed_are ∙ length-append t.worlds.listed (a.listed ∷ []) in
    let more : length (ms ++ m ∷ []) ≡ length ms + 1 = length-append ms (m ∷ []) in
    omega (arith, r, one, more)

-- ---- names of what came

record IsNameOfInterface (first : ℕ) (ds : List Interface) (e : Pair) : Type 0 where
  place : ℕ
  one : Interface
  name : String Global
  index : e.1 ≡ first + place
  there : slice_get ds place ≡ Some one
  named : one.name ≡ Some name
  text : e.0 ≡ string_bytes name

interface_name : (first : ℕ) (d : Interface) (ds : List Interface) (n : Option (String Global)) → d.name ≡ n → (e : Pair) → order.Has (name_at first n) e → IsNameOfInterface first (d ∷ ds) e
interface_name first d ds None is e h = absurd h
interface_name first d ds (Some x) is e (inl here) = record { place = 0; one = d; name = x; index = (let i : e.1 ≡ first = ap (λ (q : Pair). q.1) here in omega (arith, i)); there = refl; named = is; text = ap (λ (q : Pair). q.0) here }
interface_name first d ds (Some x) is e (inr none) = absurd none

interface_names_are : (first : ℕ) (ds : List Interface) (e : Pair) → order.Has (interface_names first ds) e → IsNameOfInterface first ds e
interface_names_are first [] e h = absurd h
interface_names_are first (d ∷ ds) e h = elim (has_or (name_at first d.name) (interface_names (suc first) ds) e h) as (λ _. IsNameOfInterface first (d ∷ ds) e) [
  | inl here ↦ interface_name first d ds d.name refl e here
  | inr later ↦
      let r = interface_names_are (suc first) ds e later in
      record { place = suc r.place; one = r.one; name = r.name; index = (let i : e.1 ≡ suc first + r.place = r.index in omega (arith, i)); there = r.there; named = r.named; text = r.text }
]

record IsNameOfWorld (first : ℕ) (ms : List MovedWorld) (e : Pair) : Type 0 where
  place : ℕ
  one : MovedWorld
  index : e.1 ≡ first + place
  there : slice_get ms place ≡ Some one
  text : e.0 ≡ string_bytes one.name

world_names_are : (first : ℕ) (ms : List MovedWorld) (e : Pair) → order.Has (world_names first ms) e → IsNameOfWorld first ms e
world_names_are first [] e h = absurd h
world_names_are first (m ∷ ms) e h = elim h as (λ _. IsNameOfWorld first (m ∷ ms) e) [
  | inl here ↦ record { place = 0; one = m; index = (let i : e.1 ≡ first = ap (λ (q : Pair). q.1) here in omega (arith, i)); there = refl; text = ap (λ (q : Pair). q.0) here }
  | inr later ↦
      let r = world_names_are (suc first) ms e later in
      record { place = suc r.place; one = r.one; index = (let i : e.1 ≡ suc first + r.place = r.index in omega (arith, i)); there = r.there; text = r.text }
]

-- ---- all of it

module _ (package_owners owners : Owners) (eq : PackageName → PackageName → Bool) (features : FeatureSet) (old : Graph) (p : UnresolvedPackage) (new : Graph) (id : ℕ)
    (tells : TellsNamesApart eq) (stand : NamesOfGraphStand old) (owned : AreOwned owners old.tables) (are : AreOwnersOf package_owners p) (named_apart : AreWorldsNamedApart p) (h : IsPushed eq features old p new id)
    (is_new : IsNewText old.tables.packages h.put.added.q.name)
  where
    found : AreFoundByName old.tables.packages package_owners h.foreign.interfaces h.foreign.worlds
    found = asked_found eq features old.names old.tables.packages package_owners p h.foreign.interfaces h.foreign.worlds tells stand are.asks h.are_places.found

    asked_interfaces : length h.foreign.interfaces ≡ (asked p).interfaces
    asked_interfaces = h.are_places.found.interfaces_are.all

    asked_worlds : length h.foreign.worlds ≡ (asked p).worlds
    asked_worlds = h.are_places.found.worlds_are.all

    abbrev all : Owners
    all = record {
      interfaces = owners.interfaces ++ kept_owners features interface_gate (own_parts p).interfaces (drop (length h.foreign.interfaces) package_owners.interfaces);
      worlds = owners.worlds ++ kept_owners features world_gate (own_parts p).worlds (drop (length h.foreign.worlds) package_owners.worlds);
    }

    own_interfaces : length (drop (length h.foreign.interfaces) package_owners.interfaces) ≡ length (own_parts p).interfaces
    own_interfaces = same_drop (length h.foreign.interfaces) package_owners.interfaces p.interfaces are.so_many_interfaces ∙ ap (λ (n : ℕ). length (drop n p.interfaces)) asked_interfaces

    own_worlds : length (drop (length h.foreign.worlds) package_owners.worlds) ≡ length (own_parts p).worlds
    own_worlds = same_drop (length h.foreign.worlds) package_owners.worlds p.worlds are.so_many_worlds ∙ ap (λ (n : ℕ). length (drop n p.worlds)) asked_worlds

    found_interface : (i j : ℕ) → place_of h.foreign.interfaces i ≡ Some j → (w : Owner) × (slice_get owners.interfaces j ≡ Some w) × (slice_get package_owners.interfaces i ≡ Some w)
    found_interface i j at = (let f = found.interfaces_are i j at in (f.0, owned.interfaces_are f.0 j f.2, f.1))

    found_world : (i j : ℕ) → place_of h.foreign.worlds i ≡ Some j → (w : Owner) × (slice_get owners.worlds j ≡ Some w) × (slice_get package_owners.worlds i ≡ Some w)
    found_world i j at = (let f = found.worlds_are i j at in (f.0, owned.worlds_are f.0 j f.2, f.1))

    interface_there : (i j : ℕ) → place_of (placed features h.foreign.interfaces (length old.tables.interfaces.all) (map interface_gate (own_parts p).interfaces)) i ≡ Some j → slice_get all.interfaces j ≡ slice_get package_owners.interfaces i
    interface_there = owner_there features interface_gate h.foreign.interfaces (length old.tables.interfaces.all) (own_parts p).interfaces package_owners.interfaces owners.interfaces owned.so_many_interfaces own_interfaces found_interface

    world_there : (i j : ℕ) → place_of (placed features h.foreign.worlds (length old.tables.worlds.listed) (map world_gate (own_parts p).worlds)) i ≡ Some j → slice_get all.worlds j ≡ slice_get package_owners.worlds i
    world_there = owner_there features world_gate h.foreign.worlds (length old.tables.worlds.listed) (own_parts p).worlds package_owners.worlds owners.worlds owned.so_many_worlds own_worlds found_world

    -- ---- whose what stands is

    owners_are : (o : TypeOwner) → is_owner_placed h.owners o ≡ true → owner_of all (moved_owner h.owners o) ≡ owner_of package_owners o
    owners_are (belongs.Interface i) is =
        let at : place_of h.owners.interfaces i ≡ Some (to h.owners.interfaces i) = goes_to h.owners.interfaces i (to h.owners.interfaces i) is refl in
        interface_there i (to h.owners.interfaces i) (subst (λ (o : OwnerPlaces). place_of o.interfaces i ≡ Some (to h.owners.interfaces i)) h.are_places.planned.owners_are at)
    owners_are (belongs.World i) is =
        let at : place_of h.owners.worlds i ≡ Some (to h.owners.worlds i) = goes_to h.owners.worlds i (to h.owners.worlds i) is refl in
        world_there i (to h.owners.worlds i) (subst (λ (o : OwnerPlaces). place_of o.worlds i ≡ Some (to h.owners.worlds i)) h.are_places.planned.owners_are at)
    owners_are belongs.None is = refl

    -- ---- what has names

    text : text_of p.name ≡ text_of h.put.added.q.name
    text = same_text p.name h.put.same h.put.is_same ∙ ap text_of (sym h.put.added.is_package.name_is)

    interface_is : (e : Pair) → order.Has (interface_names (length old.tables.interfaces.all) h.put.added.parts.own_interfaces.moved) e → slice_get all.interfaces e.1 ≡ Some (record { package_text = text_of p.name; place = in_interface e.0 })
    interface_is e has =
        let a = h.put.added.parts.own_interfaces in
        let n = interface_names_are (length old.tables.interfaces.all) a.moved e has in
        let from = interface_from features (standing h.owners h.places) (length old.tables.packages) h.foreign.interfaces (length old.tables.interfaces.all) (own_parts p).interfaces a.moved a.are_moved n.place n.one n.there in
        let own = are.interfaces_are from.place from.old n.name from.was (sym from.moved.name ∙ n.named) in
        ap (slice_get all.interfaces) n.index ∙ interface_there (length h.foreign.interfaces + from.place) (length old.tables.interfaces.all + n.place) from.stands
        ∙ ap (λ (m : ℕ). slice_get package_owners.interfaces (m + from.place)) asked_interfaces ∙ own ∙ ap (λ (x : List ℕ). Some (record { package_text = text_of p.name; place = in_interface x })) (sym n.text)

    world_is : (e : Pair) → order.Has (world_names (length old.tables.worlds.listed) h.put.added.parts.own_worlds.moved) e → slice_get all.worlds e.1 ≡ Some (record { package_text = text_of p.name; place = in_world e.0 })
    world_is e has =
        let a = h.put.added.parts.own_worlds in
        let n = world_names_are (length old.tables.worlds.listed) a.moved e has in
        let from = worlds_take_places_alone features (standing h.owners h.places) h.foreign.worlds (length old.tables.worlds.listed) (own_parts p).worlds a.moved
        (λ i j at. (let f = found_world i j at in let l : j < length owners.worlds = slice_get_within owners.worlds j f.0 f.1 in let e = owned.so_many_worlds in omega (arith, l, e))) a.are_moved n.place n.one n.there in
        let own = are.worlds_are from.place from.old from.was in
        ap (slice_get all.worlds) n.index ∙ world_there (length h.foreign.worlds + from.place) (length old.tables.worlds.listed + n.place) from.stands
        ∙ ap (λ (m : ℕ). slice_get package_owners.worlds (m + from.place)) asked_worlds ∙ own
        ∙ ap (λ (x : List ℕ). Some (record { package_text = text_of p.name; place = in_world x })) (sym (n.text ∙ ap string_bytes from.moved.name))

    interface_named : (w : Owner) (j : ℕ) → IsInterfaceOf new.tables.packages w j → slice_get all.interfaces j ≡ Some w
    interface_named w j is =
        let q : Package = h.put.added.q in
        let there : Has (old.tables.packages ++ q ∷ []) is.«package» = subst (λ (ps : List Package). Has ps is.«package») h.put.added.packages_are is.there in
        elim (get_more old.tables.packages q is.«package» there.0 there.1) as (λ _. slice_get all.interfaces j ≡ Some w) [
          | inl was ↦
              get_kept owners.interfaces (kept_owners features interface_gate (own_parts p).interfaces (drop (length h.foreign.interfaces) package_owners.interfaces)) j w
              (owned.interfaces_are w j record { «package» = is.«package»; there = (there.0, was); text = is.text; name = is.name; listed = is.listed; place_is = is.place_is })
          | inr last ↦
              let names : List (String Global × ℕ) = h.put.added.interface_names in
              let listed : Has names (is.name, j) = subst (λ (es : List (String Global × ℕ)). Has es (is.name, j)) h.put.added.is_package.interfaces_are (subst (λ (r : Package). Has r.interfaces.entries (is.name, j)) last.1 is.listed) in
              let mapped = has_map by_bytes names (is.name, j) listed in
              table_so (λ (e : Pair). slice_get all.interfaces e.1 ≡ Some (record { package_text = text_of p.name; place = in_interface e.0 })) (interface_names (length old.tables.interfaces.all) h.put.added.parts.own_interfaces.moved) names
              h.put.added.parts.own_interfaces.named interface_is (is.name, j) (has_get (map by_bytes names) mapped.0 (by_bytes (is.name, j)) mapped.1)
              ∙ ap (λ (o : Owner). Some o) (same_owner w (text_of p.name) (in_interface (string_bytes is.name)) (is.text ∙ ap (λ (r : Package). text_of r.name) last.1 ∙ sym text) is.place_is)
        ]

    world_named : (w : Owner) (j : ℕ) → IsWorldOf new.tables.packages w j → slice_get all.worlds j ≡ Some w
    world_named w j is =
        let q : Package = h.put.added.q in
        let there : Has (old.tables.packages ++ q ∷ []) is.«package» = subst (λ (ps : List Package). Has ps is.«package») h.put.added.packages_are is.there in
        elim (get_more old.tables.packages q is.«package» there.0 there.1) as (λ _. slice_get all.worlds j ≡ Some w) [
          | inl was ↦
              get_kept owners.worlds (kept_owners features world_gate (own_parts p).worlds (drop (length h.foreign.worlds) package_owners.worlds)) j w
              (owned.worlds_are w j record { «package» = is.«package»; there = (there.0, was); text = is.text; name = is.name; listed = is.listed; place_is = is.place_is })
          | inr last ↦
              let names : List (String Global × ℕ) = h.put.added.world_names in
              let listed : Has names (is.name, j) = subst (λ (es : List (String Global × ℕ)). Has es (is.name, j)) h.put.added.is_package.worlds_are (subst (λ (r : Package). Has r.worlds.entries (is.name, j)) last.1 is.listed) in
              let mapped = has_map by_bytes names (is.name, j) listed in
              table_so (λ (e : Pair). slice_get all.worlds e.1 ≡ Some (record { package_text = text_of p.name; place = in_world e.0 })) (world_names (length old.tables.worlds.listed) h.put.added.parts.own_worlds.moved) names
              h.put.added.parts.own_worlds.named world_is (is.name, j) (has_get (map by_bytes names) mapped.0 (by_bytes (is.name, j)) mapped.1)
              ∙ ap (λ (o : Owner). Some o) (same_owner w (text_of p.name) (in_world (string_bytes is.name)) (is.text ∙ ap (λ (r : Package). text_of r.name) last.1 ∙ sym text) is.place_is)
        ]

    -- ---- worlds are apart

    abbrev own_owners : List Owner
    own_owners = drop (length h.foreign.worlds) package_owners.worlds

    abbrev came : List Owner
    came = kept_owners features world_gate (own_parts p).worlds own_owners

    own_is : (k : ℕ) (w : Owner) → slice_get own_owners k ≡ Some w → (v : World) × (slice_get (own_parts p).worlds k ≡ Some v) × (w ≡ record { package_text = text_of p.name; place = in_world (string_bytes v.name) })
    own_is k w at =
        let within : k < length own_owners = slice_get_within own_owners k w at in
        let size = own_worlds in
        let v = got (own_parts p).worlds k (omega (arith, within, size)) in
        let here : slice_get package_owners.worlds ((asked p).worlds + k) ≡ Some w = ap (λ (n : ℕ). slice_get package_owners.worlds (n + k)) (sym asked_worlds) ∙ sym (dropped (length h.foreign.worlds) package_owners.worlds k) ∙ at in
        (v.0, v.1, same_Some w (record { package_text = text_of p.name; place = in_world (string_bytes v.0.name) }) (sym here ∙ are.worlds_are k v.0 v.1))

    own_apart : AreApart own_owners
    own_apart i j w at_i at_j =
        let a = own_is i w at_i in
        let b = own_is j w at_j in
        named_apart i j a.0 b.0 a.1 b.1 (world_place (string_bytes a.0.name) (string_bytes b.0.name) (ap (λ (o : Owner). o.place) (sym a.2 ∙ b.2)))

    came_apart : AreApart came
    came_apart = kept_apart features world_gate (own_parts p).worlds own_owners own_apart

    came_is : (k : ℕ) (w : Owner) → slice_get came k ≡ Some w → (x : Name) × (w.place ≡ in_world x) × (w.package_text ≡ text_of p.name)
    came_is k w at =
        let was = kept_was features world_gate (own_parts p).worlds own_owners w (k, at) in
        let o = own_is was.0 w was.1 in
        (string_bytes o.0.name, ap (λ (u : Owner). u.place) o.2, ap (λ (u : Owner). u.package_text) o.2)

    not_both : (i j : ℕ) (w : Owner) → slice_get owners.worlds i ≡ Some w → slice_get came j ≡ Some w → ⊥
    not_both i j w old_at new_at =
        let was = owned.apart.worlds_are i w old_at in
        let is = came_is j w new_at in
        is_new was.«package» was.there (sym was.text ∙ is.2 ∙ text)

    worlds_apart : AreApart all.worlds
    worlds_apart i j w at_i at_j = elim (get_either owners.worlds came i w at_i) as (λ _. i ≡ j) [
      | inl old_i ↦ elim (get_either owners.worlds came j w at_j) as (λ _. i ≡ j) [ inl old_j ↦ owned.apart.apart i j w old_i old_j | inr new_j ↦ absurd (not_both i new_j.0 w old_i new_j.2) ]
      | inr new_i ↦ elim (get_either owners.worlds came j w at_j) as (λ _. i ≡ j) [
        | inl old_j ↦ absurd (not_both j new_i.0 w old_j new_i.2)
        | inr new_j ↦ (let one : new_i.0 ≡ new_j.0 = came_apart new_i.0 new_j.0 w new_i.2 new_j.2 in let a : i ≡ length owners.worlds + new_i.0 = new_i.1 in let b : j ≡ length owners.worlds + new_j.0 = new_j.1 in omega (arith, one, a, b))
      ]
    ]

    in_new : (w : Owner) → IsWorldIn old.tables.packages w → IsWorldIn new.tables.packages w
    in_new w is = record {
      «package» = is.«package»;
      there = subst (λ (ps : List Package). Has ps is.«package») (sym h.put.added.packages_are) (is.there.0, get_kept old.tables.packages (h.put.added.q ∷ []) is.there.0 is.«package» is.there.1);
      text = is.text;
      name = is.name;
      place_is = is.place_is;
    }

    all_apart : AreWorldsApart all new.tables.packages
    all_apart = record {
      apart = worlds_apart;
      worlds_are = λ i w at. elim (get_either owners.worlds came i w at) as (λ _. IsWorldIn new.tables.packages w) [
        | inl was ↦ in_new w (owned.apart.worlds_are i w was)
        | inr new_one ↦
            let is = came_is new_one.0 w new_one.2 in
            record {
              «package» = h.put.added.q;
              there = subst (λ (ps : List Package). Has ps h.put.added.q) (sym h.put.added.packages_are) (has_right old.tables.packages (h.put.added.q ∷ []) h.put.added.q (has_here h.put.added.q []));
              text = is.2 ∙ text;
              name = is.0;
              place_is = is.1;
            }
      ];
      interfaces_are = λ i w x at e. elim (get_either owners.interfaces (kept_owners features interface_gate (own_parts p).interfaces (drop (length h.foreign.interfaces) package_owners.interfaces)) i w at) as (λ _. ⊥) [
        | inl was ↦ owned.apart.interfaces_are i w x was e
        | inr new_one ↦
            let was = kept_was features interface_gate (own_parts p).interfaces (drop (length h.foreign.interfaces) package_owners.interfaces) w (new_one.0, new_one.2) in
            are.no_worlds was.0 w x (ap (λ (n : ℕ). slice_get package_owners.interfaces (n + was.0)) (sym asked_interfaces) ∙ sym (dropped (length h.foreign.interfaces) package_owners.interfaces was.0) ∙ was.1) e
      ];
    }

    all_owned : AreOwned all new.tables
    all_owned = record {
      so_many_interfaces =
          let a = h.put.added.parts.own_interfaces in
          let front = length-append owners.interfaces (kept_owners features interface_gate (own_parts p).interfaces (drop (length h.foreign.interfaces) package_owners.interfaces)) in
          let kept = interfaces_kept features (standing h.owners h.places) (length old.tables.packages) (own_parts p).interfaces a.moved (drop (length h.foreign.interfaces) package_owners.interfaces) a.are_moved own_interfaces in
          let back = length-append old.tables.interfaces.all a.moved in
          let there : length new.tables.interfaces.all ≡ length (old.tables.interfaces.all ++ a.moved) = ap length a.added.all_are in
          let was = owned.so_many_interfaces in
          omega (arith, front, kept, back, there, was);
      so_many_worlds =
          let a = h.put.added.parts.own_worlds in
          let front = length-append owners.worlds (kept_owners features world_gate (own_parts p).worlds (drop (length h.foreign.worlds) package_owners.worlds)) in
          let kept = worlds_kept features (standing h.owners h.places) (own_parts p).worlds a.moved (drop (length h.foreign.worlds) package_owners.worlds) a.are_moved own_worlds in
          let there = worlds_added _ _ _ _ _ _ a.added in
          let was = owned.so_many_worlds in
          omega (arith, front, kept, there, was);
      interfaces_are = interface_named;
      worlds_are = world_named;
      apart = all_apart;
      tables = tables_pushed old.tables.packages h.put.added.q new.tables.packages h.put.added.packages_are owned.tables is_new
          (names_apart (interface_names (length old.tables.interfaces.all) h.put.added.parts.own_interfaces.moved) h.put.added.q.interfaces.entries
          (subst (AreNames (interface_names (length old.tables.interfaces.all) h.put.added.parts.own_interfaces.moved)) (sym h.put.added.is_package.interfaces_are) h.put.added.parts.own_interfaces.named))
          (names_apart (world_names (length old.tables.worlds.listed) h.put.added.parts.own_worlds.moved) h.put.added.q.worlds.entries
          (subst (AreNames (world_names (length old.tables.worlds.listed) h.put.added.parts.own_worlds.moved)) (sym h.put.added.is_package.worlds_are) h.put.added.parts.own_worlds.named));
    }

pub pushed_owned : PushedGraphsAreOwned
pushed_owned package_owners owners eq features old p new id tells stand owned are named_apart h is_new = record {
  all = all package_owners owners eq features old p new id tells stand owned are named_apart h is_new;
  more = record { interfaces = _; interfaces_are = refl; worlds = _; worlds_are = refl };
  owned = all_owned package_owners owners eq features old p new id tells stand owned are named_apart h is_new;
  owners_are = owners_are package_owners owners eq features old p new id tells stand owned are named_apart h is_new;
}
