-- A package behind all that was there.
use Rattle.std.proofs.Common.{◌≡◌, ℕ, zero, suc, ◌+◌, ◌<◌, ◌≤◌, Bool, true, false, List, [], ◌∷◌, ◌++◌, ◌⊎◌, inl, inr, Option, Some, None, String, Ok, Err, OnOk, OnErr, IfOk, IfErr, refl, sym, subst, ap, ◌∙◌, arith, length, length-append, map, take, bytes_eq}
use Rattle.std.proofs.lemmas.List.{take-append-drop}
use Rattle.std.proofs.lemmas.Option.{same_Some}
use Rattle.std.specs.Prelude.{slice_get, is_some, if◌then◌else◌}
use Rattle.std.specs.Map.{lookup}
use Rattle.std.specs.declared.alloc.Global.{Global}
use Rattle.std.specs.declared.result.Result.{Result}
use Rattle.indexmap.specs.IndexMap.{insert_entry, insert_all}
use Rattle.wit_order.specs.Order.{Has}
use Rattle.wit_order.specs.Places.{Rows}
use Rattle.wit_types.specs.declared.interface.Interface.{Interface}
use Rattle.wit_types.specs.declared.interface.TypeDef.{TypeDef}
use Rattle.wit_types.specs.declared.world.World.{World}
use Rattle.wit_types.specs.declared.«package».Package.{Package}
use Rattle.wit_types.specs.declared.«package».PackageName.{PackageName}
use Rattle.wit_types.specs.declared.«package».UnresolvedPackage.{UnresolvedPackage}
use Rattle.wit_features.specs.Features.{FeatureSet}
use Rattle.wit_moves.specs.Moved.{Places}
use Rattle.wit_reach.specs.Holding.{AreListed, HoldTheirTypes}
use Rattle.wit_moves.specs.Plan.{OwnerPlaces}
use Rattle.wit_moves.specs.declared.plan.MoveFault.{MoveFault}
use Rattle.wit_moves.specs.declared.plan.MoveFault.TheVariants as moved
use Rattle.wit_finding.specs.Foreign.{AreForeignPlaces}
use Rattle.wit_names.specs.Names.{ArePackagesKnown}
use Rattle.wit_plans.specs.Moves.{AreMovedInterfaces, no_interfaces, interface_goes, interface_stays}
use Rattle.wit_plans.specs.Plans.{Parts, standing, IsPlanned, IsPlanCause}
use Rattle.wit_plans.specs.declared.moves.MovedWorld.{MovedWorld}
use Rattle.wit_graph_parts.specs.Passed.wit_placed-Found.{IsPackageThere, ArePackagesThere, FoundAreThere}
use Rattle.wit_graph_parts.specs.Passed.wit_placed-Listed.{AreOwnersBehind}
use Rattle.wit_graph_parts.specs.Passed.wit_placed-There.{AreBelow}
use Rattle.wit_graph_parts.specs.Passed.wit_resources-Natures.{kind_nature, natures_from}
use Rattle.wit_graph_parts.specs.Passed.wit_resources-declared-natures-Nature.{Nature}
use Rattle.wit_graph_parts.specs.Passed.wit_graph_worlds-Added as worlds
use Rattle.wit_graph_parts.specs.Passed.wit_graph_worlds-Worlds.{State}
use Rattle.wit_graph_parts.specs.Faults.{of_moved}
use Rattle.wit_graph.specs.Graph.{Graph, IsGraph, Items, items_of, AreWhole, nothing, sizes}
use Rattle.wit_graph_parts.specs.Interfaces.{no_rows}
use Rattle.wit_graph_parts.specs.Passed.wit_graph_worlds-Names.{Pair, by_bytes, name_at, interface_names, world_names, AreNames}
use Rattle.wit_graph_parts.specs.Own.{asked, own_parts, parts_behind, IsWellFormed}
use Rattle.wit_graph.specs.Push.{IsReady, ArePartsAdded, HaveGrown, HasMore, HasMorePackages, mark_of, cut, IsPartsCause, ArePlaces, IsPushCause, left_out, not_included}
use Rattle.wit_graph_parts.specs.declared.fault.PushFault.{PushFault}
use Rattle.wit_graph_parts.specs.declared.fault.PushFault.TheVariants.{GateVersion, DuplicatePackage, PackageNotFound, ItemNotFound, IncludeClash, ExportConflict, ForeignShape, OutOfMemory}
use Rattle.wit_graph.specs.declared.tables.Tables.{Tables}
use Rattle.wit_graph.specs.declared.tables.Mark.{Mark}
use Rattle.wit_plans.specs.declared.plans.Sizes.{Sizes}
use Rattle.wit_graph.proofs.Keeping.{get_parts, has_or, rows_long}
use Rattle.wit_graph_parts.proofs.Taking.{take_grown}

-- ---- results

pub on_ok_at : {X E : Type 0} (r : Result X E) (u : X) (P : Type 0) → r ≡ Ok u → OnOk r P → P
on_ok_at {X} {E} (Ok v) u P e p = p
on_ok_at {X} {E} (Err f) u P e p = absurd cc

pub on_err_at : {X E : Type 0} (r : Result X E) (f : E) (P : Type 0) → r ≡ Err f → OnErr r P → P
on_err_at {X} {E} (Ok v) f P e p = absurd cc
on_err_at {X} {E} (Err g) f P e p = p

pub if_ok_at : {X E : Type 0} (r : Result X E) (u : X) (P : X → Type 0) → r ≡ Ok u → IfOk r P → P u
if_ok_at {X} {E} r u P e p = subst (λ (q : Result X E). IfOk q P) e p

pub if_err_at : {X E : Type 0} (r : Result X E) (f : E) (P : E → Type 0) → r ≡ Err f → IfErr r P → P f
if_err_at {X} {E} r f P e p = subst (λ (q : Result X E). IfErr q P) e p

-- ---- no packages

pub nothing_is_graph : (t : Tables) (names : List (PackageName × ℕ)) → t ≡ nothing → names ≡ [] → IsGraph (record { tables = t; names = names })
nothing_is_graph t names te ne =
    subst (λ (n : List (PackageName × ℕ)). IsGraph (record { tables = t; names = n })) (sym ne) (subst (λ (s : Tables). IsGraph (record { tables = s; names = [] })) (sym te) (record {
      whole = record {
        whole = record {
          natures_are = refl;
          rows = no_rows;
          holds = record { named = λ i d x at. absurd cc; theirs = λ k d e at. absurd cc; types_use = λ k s d at. absurd cc; functions_use = λ k s d at. absurd cc };
          listed = λ i k d at. absurd cc;
          names = λ d h. absurd h;
          nameless = λ k d at. absurd cc;
          sound = record {
            backward = λ i j (d, h, has). absurd cc;
            owners = λ i j d h o. absurd cc;
            there = λ w h. absurd h;
            interfaces = λ w h. absurd h;
            keys = λ w h. absurd h;
            so_many = refl;
          };
          elaborated = λ i a b h k. absurd cc;
          interfaces_are = λ d h. absurd h;
        };
        closures_are = refl;
        reached = λ i x at. absurd cc;
        owners_are = λ i p d h o. absurd cc;
        packages_are = λ p h. absurd h;
        backward = λ p q dep. (let none = dep.there in absurd cc);
      };
      names_are = λ e h. absurd h;
    }))

-- ---- names are of what is there

abbrev AreBelowAll : ℕ → List Pair → Type 0
AreBelowAll n ps = (e : Pair) → Has ps e → e.1 < n

insert_below : (n : ℕ) (es : List Pair) (k : List ℕ) (v : ℕ) → AreBelowAll n es → v < n → AreBelowAll n (insert_entry bytes_eq es k v)
insert_below n [] k v below l e h = elim h as (λ _. e.1 < n) [ inl here ↦ subst (λ (q : Pair). q.1 < n) (sym here) l | inr later ↦ absurd later ]
insert_below n (x ∷ es) k v below l e h = by_cases (bytes_eq k x.0) h (insert_below n es k v (λ q m. below q (inr m)) l e)
  where
    by_cases : (b : Bool) → Has (if b then (x.0, v) ∷ es else x ∷ insert_entry bytes_eq es k v) e → (Has (insert_entry bytes_eq es k v) e → e.1 < n) → e.1 < n
    by_cases true h later = elim h as (λ _. e.1 < n) [ inl here ↦ subst (λ (q : Pair). q.1 < n) (sym here) l | inr was ↦ below e (inr was) ]
    by_cases false h later = elim h as (λ _. e.1 < n) [ inl here ↦ below e (inl here) | inr new ↦ later new ]

all_below : (n : ℕ) (es ps : List Pair) → AreBelowAll n es → AreBelowAll n ps → AreBelowAll n (insert_all bytes_eq es ps)
all_below n es [] below more = below
all_below n es (p ∷ ps) below more = all_below n (insert_entry bytes_eq es p.0 p.1) ps (insert_below n es p.0 p.1 below (more p (inl refl))) (λ q m. more q (inr m))

name_below : (n i : ℕ) (x : Option (String Global)) → i < n → AreBelowAll n (name_at i x)
name_below n i None l e h = absurd h
name_below n i (Some x) l e h = elim h as (λ _. e.1 < n) [ inl here ↦ subst (λ (q : Pair). q.1 < n) (sym here) l | inr later ↦ absurd later ]

interfaces_below : (n i : ℕ) (ds : List Interface) → i + length ds ≤ n → AreBelowAll n (interface_names i ds)
interfaces_below n i [] l e h = absurd h
interfaces_below n i (d ∷ ds) l e h =
    elim (has_or (name_at i d.name) (interface_names (suc i) ds) e h) as (λ _. e.1 < n) [
      | inl here ↦ name_below n i d.name (omega arith) e here
      | inr later ↦ interfaces_below n (suc i) ds (omega arith) e later
    ]

worlds_below : (n i : ℕ) (ms : List MovedWorld) → i + length ms ≤ n → AreBelowAll n (world_names i ms)
worlds_below n i [] l e h = absurd h
worlds_below n i (m ∷ ms) l e h =
    elim h as (λ _. e.1 < n) [
      | inl here ↦ subst (λ (q : Pair). q.1 < n) (sym here) (let k : i < n = omega arith in k)
      | inr later ↦ worlds_below n (suc i) ms (omega arith) e later
    ]

by_bytes_has : (es : List (String Global × ℕ)) (e : String Global × ℕ) → Has es e → Has (map by_bytes es) (by_bytes e)
by_bytes_has [] e h = absurd h
by_bytes_has (x ∷ es) e h = elim h as (λ _. Has (map by_bytes (x ∷ es)) (by_bytes e)) [ inl here ↦ inl (ap by_bytes here) | inr later ↦ inr (by_bytes_has es e later) ]

named_below : (n : ℕ) (pairs : List Pair) (es : List (String Global × ℕ)) → AreNames pairs es → AreBelowAll n pairs → (e : String Global × ℕ) → Has es e → e.1 < n
named_below n pairs es named below e h = all_below n [] pairs (λ q m. absurd m) below (by_bytes e) (subst (λ (ps : List Pair). Has ps (by_bytes e)) named (by_bytes_has es e h))

-- ---- packages

listed_long : (interfaces : List Interface) (uses : Rows) (owner : ℕ) (ms : List MovedWorld) (s t : State) → worlds.AreAdded interfaces uses owner ms s t → length t.worlds.listed ≡ length s.worlds.listed + length ms
listed_long interfaces uses owner _ s _ (worlds.none_added t) = omega arith
listed_long interfaces uses owner _ s _ (worlds.one_added ms m _ t u first one) =
    let before : length t.worlds.listed ≡ length s.worlds.listed + length ms = listed_long interfaces uses owner ms s t first in
    let here : length u.worlds.listed ≡ length t.worlds.listed + 1 = ap (λ (ws : List World). length ws) one.listed_are ∙ length-append t.worlds.listed (one.listed ∷ []) in
    let last : length (ms ++ m ∷ []) ≡ length ms + 1 = length-append ms (m ∷ []) in
    omega (arith, before, here, last)

more_there : (n m a b : ℕ) (p : Package) → n ≤ a → m ≤ b → IsPackageThere n m p → IsPackageThere a b p
more_there n m a b p l k there = record {
  interfaces_are = λ e h. (let x : e.1 < n = there.interfaces_are e h in omega arith);
  worlds_are = λ e h. (let x : e.1 < m = there.worlds_are e h in omega arith);
}

module _ (features : FeatureSet) (owner : ℕ) (owners : OwnerPlaces) (places : Places) (p : Parts) (old new : Items) (interface_table world_table : List (String Global × ℕ))
    (added : ArePartsAdded features owner owners places p old new interface_table world_table)
  where
    all_long : length new.interfaces.all ≡ length old.interfaces.all + length added.own_interfaces.moved
    all_long = ap (λ (ds : List Interface). length ds) added.own_interfaces.added.all_are ∙ length-append old.interfaces.all added.own_interfaces.moved

    worlds_long : length new.worlds.listed ≡ length old.worlds.listed + length added.own_worlds.moved
    worlds_long = listed_long new.interfaces.all new.interfaces.uses owner added.own_worlds.moved _ _ added.own_worlds.added

    package_there : (q : Package) → q.interfaces.entries ≡ interface_table → q.worlds.entries ≡ world_table → IsPackageThere (length new.interfaces.all) (length new.worlds.listed) q
    package_there q i w = record {
      interfaces_are = λ e h. named_below (length new.interfaces.all) (interface_names (length old.interfaces.all) added.own_interfaces.moved) interface_table added.own_interfaces.named
          (interfaces_below (length new.interfaces.all) (length old.interfaces.all) added.own_interfaces.moved (let l = all_long in omega (arith, l))) e (subst (λ (es : List (String Global × ℕ)). Has es e) i h);
      worlds_are = λ e h. named_below (length new.worlds.listed) (world_names (length old.worlds.listed) added.own_worlds.moved) world_table added.own_worlds.named
          (worlds_below (length new.worlds.listed) (length old.worlds.listed) added.own_worlds.moved (let l = worlds_long in omega (arith, l))) e (subst (λ (es : List (String Global × ℕ)). Has es e) w h);
    }

    pub packages_there : (packages : List Package) (q : Package) → ArePackagesThere (length old.interfaces.all) (length old.worlds.listed) packages → q.interfaces.entries ≡ interface_table → q.worlds.entries ≡ world_table
        → ArePackagesThere (length new.interfaces.all) (length new.worlds.listed) (packages ++ q ∷ [])
    packages_there packages q there i w = λ r h.
        elim (has_or packages (q ∷ []) r h) as (λ _. IsPackageThere (length new.interfaces.all) (length new.worlds.listed) r) [
          | inl was ↦ more_there (length old.interfaces.all) (length old.worlds.listed) (length new.interfaces.all) (length new.worlds.listed) r (let l = all_long in omega (arith, l)) (let l = worlds_long in omega (arith, l)) (there r was)
          | inr last ↦ elim last as (λ _. IsPackageThere (length new.interfaces.all) (length new.worlds.listed) r) [
            | inl here ↦ subst (IsPackageThere (length new.interfaces.all) (length new.worlds.listed)) (sym here) (package_there q i w)
            | inr none ↦ absurd none
          ]
        ]

    moved_owned : (ds es : List Interface) → AreMovedInterfaces features (standing owners places) owner ds es → (k q : ℕ) (d : Interface) → slice_get es k ≡ Some d → d.«package» ≡ Some q → q ≡ owner
    moved_owned _ _ no_interfaces k q d h o = absurd cc
    moved_owned _ _ (interface_goes x ds es st rest) k q d h o = moved_owned ds es rest k q d h o
    moved_owned _ _ (interface_stays x one ds es st m rest) zero q d h o = same_Some q owner (sym o ∙ ap (λ (i : Interface). i.«package») (sym (same_Some one d h)) ∙ m.owner_is)
    moved_owned _ _ (interface_stays x one ds es st m rest) (suc k) q d h o = moved_owned ds es rest k q d h o

    pub owners_known : (packages : List Package) (q : Package) → owner ≡ length packages → ArePackagesKnown packages old.interfaces.all → ArePackagesKnown (packages ++ q ∷ []) new.interfaces.all
    owners_known packages q next known i n d at o =
        let long : length (packages ++ q ∷ []) ≡ length packages + 1 = length-append packages (q ∷ []) in
        elim (get_parts old.interfaces.all added.own_interfaces.moved i d (subst (λ (ds : List Interface). slice_get ds i ≡ Some d) added.own_interfaces.added.all_are at)) as (λ _. n < length (packages ++ q ∷ [])) [
          | inl was ↦ (let l : n < length packages = known i n d was o in omega (arith, long, l))
          | inr new ↦ (let e : n ≡ owner = moved_owned p.interfaces added.own_interfaces.moved added.own_interfaces.are_moved new.0 n d new.2 o in omega (arith, long, e, next))
        ]

-- ---- taken back

from_long : (done : List Nature) (ds : List TypeDef) → length (natures_from done ds) ≡ length done + length ds
from_long done [] = omega arith
from_long done (d ∷ ds) =
    let rest : length (natures_from done (d ∷ ds)) ≡ length (done ++ kind_nature done d.kind ∷ []) + length ds = from_long (done ++ kind_nature done d.kind ∷ []) ds in
    let one : length (done ++ kind_nature done d.kind ∷ []) ≡ length done + 1 = length-append done (kind_nature done d.kind ∷ []) in
    omega (arith, rest, one)

back : {X : Type 0} (n : ℕ) (xs ys more : List X) → length xs ≡ n → ys ≡ xs ++ more → take n ys ≡ xs
back {X} n xs ys more l e = ap (λ (k : ℕ). take k ys) (sym l) ∙ ap (take (length xs)) e ∙ take_grown xs more

tables_same : (a : Tables) (types : List TypeDef) (ns : List Nature) (all : List Interface) (uses : Rows) (closures : List (List ℕ)) (listed elaborated : List World) (packages : List Package)
    → types ≡ a.types → ns ≡ a.natures → all ≡ a.interfaces.all → uses ≡ a.interfaces.uses → closures ≡ a.closures → listed ≡ a.worlds.listed → elaborated ≡ a.worlds.elaborated → packages ≡ a.packages
    → record { types = types; natures = ns; interfaces = record { all = all; uses = uses }; closures = closures; worlds = record { listed = listed; elaborated = elaborated }; packages = packages } ≡ a
tables_same a types ns all uses closures listed elaborated packages e1 e2 e3 e4 e5 e6 e7 e8 =
    ap (λ (x : List TypeDef). make x ns all uses closures listed elaborated packages) e1 ∙ ap (λ (x : List Nature). make a.types x all uses closures listed elaborated packages) e2
    ∙ ap (λ (x : List Interface). make a.types a.natures x uses closures listed elaborated packages) e3 ∙ ap (λ (x : Rows). make a.types a.natures a.interfaces.all x closures listed elaborated packages) e4
    ∙ ap (λ (x : List (List ℕ)). make a.types a.natures a.interfaces.all a.interfaces.uses x listed elaborated packages) e5
    ∙ ap (λ (x : List World). make a.types a.natures a.interfaces.all a.interfaces.uses a.closures x elaborated packages) e6 ∙ ap (λ (x : List World). make a.types a.natures a.interfaces.all a.interfaces.uses a.closures a.worlds.listed x packages) e7
    ∙ ap (λ (x : List Package). make a.types a.natures a.interfaces.all a.interfaces.uses a.closures a.worlds.listed a.worlds.elaborated x) e8
  where
    make : List TypeDef → List Nature → List Interface → Rows → List (List ℕ) → List World → List World → List Package → Tables
    make x y z u k v w q = record { types = x; natures = y; interfaces = record { all = z; uses = u }; closures = k; worlds = record { listed = v; elaborated = w }; packages = q }

pub tables_back : (old new t : Tables) (so_many : Sizes) (packages : List Package) → AreWhole old → HasMore old new → so_many ≡ sizes (items_of old) → t ≡ cut so_many new → packages ≡ old.packages
    → record { types = t.types; natures = t.natures; interfaces = t.interfaces; closures = t.closures; worlds = t.worlds; packages = packages } ≡ old
tables_back old new t so_many packages whole m marked is same =
    let e : t ≡ cut (sizes (items_of old)) new = is ∙ ap (λ (n : Sizes). cut n new) marked in
    let long : length old.interfaces.uses ≡ length old.interfaces.all = rows_long old.types old.interfaces.all old.interfaces.uses whole.whole.rows in
    let known : length old.natures ≡ length old.types = ap (λ (ns : List Nature). length ns) whole.whole.natures_are ∙ from_long [] old.types ∙ (let z : 0 + length old.types ≡ length old.types = omega arith in z) in
    tables_same old t.types t.natures t.interfaces.all t.interfaces.uses t.closures t.worlds.listed t.worlds.elaborated packages
    (ap (λ (x : Tables). x.types) e ∙ back (length old.types) old.types new.types m.types refl m.types_are)
    (ap (λ (x : Tables). x.natures) e ∙ back (length old.types) old.natures new.natures m.known known m.natures_are)
    (ap (λ (x : Tables). x.interfaces.all) e ∙ back (length old.interfaces.all) old.interfaces.all new.interfaces.all m.interfaces refl m.interfaces_are)
    (ap (λ (x : Tables). x.interfaces.uses) e ∙ back (length old.interfaces.all) old.interfaces.uses new.interfaces.uses m.uses long m.uses_are)
    (ap (λ (x : Tables). x.closures) e ∙ back (length old.interfaces.all) old.closures new.closures m.closures (whole.closures_are ∙ long) m.closures_are)
    (ap (λ (x : Tables). x.worlds.listed) e ∙ back (length old.worlds.listed) old.worlds.listed new.worlds.listed m.listed refl m.listed_are)
    (ap (λ (x : Tables). x.worlds.elaborated) e ∙ back (length old.worlds.listed) old.worlds.elaborated new.worlds.elaborated m.elaborated whole.whole.sound.so_many m.elaborated_are)
    same

pub taken_back : (old new t : Tables) (so_many : Sizes) → AreWhole old → HaveGrown old new → so_many ≡ sizes (items_of old) → t ≡ cut so_many new → t ≡ old
taken_back old new t so_many whole grown marked is = tables_back old new t so_many t.packages whole grown.more marked is (ap (λ (x : Tables). x.packages) is ∙ grown.same_packages)

-- a graph of which all is there again is that one
pub restored : (g now : Graph) (mark : Mark) (t : Tables) (packages : List Package) (names : List (PackageName × ℕ)) → IsGraph g → HasMorePackages g now → mark ≡ mark_of g
    → t ≡ cut mark.sizes now.tables → packages ≡ take mark.packages t.packages → names ≡ take mark.names now.names
    → record { tables = record { types = t.types; natures = t.natures; interfaces = t.interfaces; closures = t.closures; worlds = t.worlds; packages = packages }; names = names } ≡ g
restored g now mark t packages names graph more marked is left named =
    let m = more.tables in
    let here : packages ≡ g.tables.packages =
    left ∙ ap (λ (x : Tables). take mark.packages x.packages) is ∙ ap (λ (k : Mark). take k.packages now.tables.packages) marked ∙ back (length g.tables.packages) g.tables.packages now.tables.packages m.packages refl m.packages_are
    in
    let all = tables_back g.tables now.tables t mark.sizes packages graph.whole m (ap (λ (k : Mark). k.sizes) marked) is here in
    let called : names ≡ g.names = named ∙ ap (λ (k : Mark). take k.names now.names) marked ∙ back (length g.names) g.names now.names more.names refl more.names_are in
    ap (λ (x : Tables). make x names) all ∙ ap (λ (y : List (PackageName × ℕ)). make g.tables y) called
  where
    make : Tables → List (PackageName × ℕ) → Graph
    make x y = record { tables = x; names = y }

-- ---- names of packages

insert_has : (eq : PackageName → PackageName → Bool) (es : List (PackageName × ℕ)) (k : PackageName) (v : ℕ) (e : PackageName × ℕ) → Has (insert_entry eq es k v) e → (e.1 ≡ v) ⊎ Has es e
insert_has eq [] k v e h = elim h as (λ _. (e.1 ≡ v) ⊎ Has [] e) [ inl here ↦ inl (ap (λ (q : PackageName × ℕ). q.1) here) | inr later ↦ absurd later ]
insert_has eq (x ∷ es) k v e h = by_cases (eq k x.0) h (insert_has eq es k v e)
  where
    by_cases : (b : Bool) → Has (if b then (x.0, v) ∷ es else x ∷ insert_entry eq es k v) e → (Has (insert_entry eq es k v) e → (e.1 ≡ v) ⊎ Has es e) → (e.1 ≡ v) ⊎ Has (x ∷ es) e
    by_cases true h later = elim h as (λ _. (e.1 ≡ v) ⊎ Has (x ∷ es) e) [ inl here ↦ inl (ap (λ (q : PackageName × ℕ). q.1) here) | inr was ↦ inr (inr was) ]
    by_cases false h later =
        elim h as (λ _. (e.1 ≡ v) ⊎ Has (x ∷ es) e) [
          | inl here ↦ inr (inl here)
          | inr new ↦ elim (later new) as (λ _. (e.1 ≡ v) ⊎ Has (x ∷ es) e) [ inl same ↦ inl same | inr was ↦ inr (inr was) ]
        ]

-- a name that isn't there comes behind the others
pub insert_fresh : (eq : PackageName → PackageName → Bool) (es : List (PackageName × ℕ)) (k : PackageName) (v : ℕ) → is_some (lookup (eq k) es) ≡ false → insert_entry eq es k v ≡ es ++ (k, v) ∷ []
insert_fresh eq [] k v e = refl
insert_fresh eq (x ∷ es) k v e = by_cases (eq k x.0) e (insert_fresh eq es k v)
  where
    by_cases : (b : Bool) → is_some (if b then Some x.1 else lookup (eq k) es) ≡ false → (is_some (lookup (eq k) es) ≡ false → insert_entry eq es k v ≡ es ++ (k, v) ∷ [])
        → (if b then (x.0, v) ∷ es else x ∷ insert_entry eq es k v) ≡ (x ∷ es) ++ (k, v) ∷ []
    by_cases true e later = absurd cc
    by_cases false e later = ap (λ (l : List (PackageName × ℕ)). x ∷ l) (later e)

pub put_is_graph : (eq : PackageName → PackageName → Bool) (old : List (PackageName × ℕ)) (packages : List Package) (q : Package) (t : Tables) (names : List (PackageName × ℕ)) (k : PackageName) (v : ℕ)
    → AreWhole t → t.packages ≡ packages ++ q ∷ [] → names ≡ insert_entry eq old k v → v ≡ length packages → ((e : PackageName × ℕ) → Has old e → e.1 < length packages) → IsGraph (record { tables = t; names = names })
put_is_graph eq old packages q t names k v whole pe ne ve within = record {
  whole = whole;
  names_are = λ e h.
      let long : length t.packages ≡ length packages + 1 = ap (λ (ps : List Package). length ps) pe ∙ length-append packages (q ∷ []) in
      elim (insert_has eq old k v e (subst (λ (ns : List (PackageName × ℕ)). Has ns e) ne h)) as (λ _. e.1 < length t.packages) [
        | inl new ↦ omega (arith, long, new, ve)
        | inr was ↦ (let l : e.1 < length packages = within e was in omega (arith, long, l))
      ];
}

-- ---- a push

module _ (eq : PackageName → PackageName → Bool) (features : FeatureSet) (old : Graph) (p : UnresolvedPackage) (well : IsWellFormed p) (whole : AreWhole old.tables) (foreign : OwnerPlaces)
    (found : AreForeignPlaces eq features old.names old.tables.packages p foreign.interfaces foreign.worlds) (found_there : FoundAreThere)
  where
    pub found_below : AreBelow (length old.tables.interfaces.all) foreign.interfaces × AreBelow (length old.tables.worlds.listed) foreign.worlds
    found_below = found_there eq features old.names old.tables.packages p foreign.interfaces foreign.worlds (length old.tables.interfaces.all) (length old.tables.worlds.listed) whole.packages_are found

    pub parts_are : (n m : ℕ) (own : Parts) → n ≡ length foreign.interfaces → m ≡ length foreign.worlds → own ≡ parts_behind n m p → own ≡ own_parts p
    parts_are n m own ne me e = e ∙ ap (λ (k : ℕ). parts_behind k m p) (ne ∙ found.interfaces_are.all) ∙ ap (λ (k : ℕ). parts_behind (asked p).interfaces k p) (me ∙ found.worlds_are.all)

    -- what holds of the types and interfaces of the package holds of its parts
    of_own : (P : ℕ → List TypeDef → List Interface → Type 0) → P (asked p).interfaces p.types (own_parts p).interfaces → P (length foreign.interfaces) ((own_parts p).unknown ++ (own_parts p).types) (own_parts p).interfaces
    of_own P holds =
        subst (λ (n : ℕ). P n ((own_parts p).unknown ++ (own_parts p).types) (own_parts p).interfaces) (sym found.interfaces_are.all)
        (subst (λ (ds : List TypeDef). P (asked p).interfaces ds (own_parts p).interfaces) (sym (take-append-drop (length p.unknown_type_spans.items) p.types)) holds)

    own_ready : (owners : OwnerPlaces) (places : Places) → IsPlanned features old.tables.interfaces.all (sizes (items_of old.tables)) foreign (own_parts p) owners places → IsReady features (items_of old.tables) foreign (own_parts p) owners places
    own_ready owners places planned = record {
      whole = whole.whole;
      interfaces_below = found_below.0;
      worlds_below = found_below.1;
      planned = planned;
      nameless = well.nameless;
      owned = subst (λ (n : ℕ). AreOwnersBehind n (own_parts p).types) (sym found.interfaces_are.all) well.owned;
      holds = of_own HoldTheirTypes well.holds;
      listed = of_own AreListed well.listed;
      names = well.names;
      keys = well.keys;
    }

    pub ready : (own : Parts) (owners : OwnerPlaces) (places : Places) → own ≡ own_parts p → IsPlanned features old.tables.interfaces.all (sizes (items_of old.tables)) foreign own owners places → IsReady features (items_of old.tables) foreign own owners places
    ready own owners places e planned =
        subst (λ (q : Parts). IsReady features (items_of old.tables) foreign q owners places) (sym e)
        (own_ready owners places (subst (λ (q : Parts). IsPlanned features old.tables.interfaces.all (sizes (items_of old.tables)) foreign q owners places) e planned))

    pub plan_refused : (own : Parts) → own ≡ own_parts p → (fault : MoveFault) → IsPlanCause features old.tables.interfaces.all (sizes (items_of old.tables)) foreign own fault → IsPushCause eq features old p (of_moved fault)
    plan_refused own e (moved.ItemNotFound at) c = left_out foreign found (subst (λ (q : Parts). IsPlanCause features old.tables.interfaces.all (sizes (items_of old.tables)) foreign q (moved.ItemNotFound at)) e c)
    plan_refused own e moved.OutOfMemory c = tt

    module _ (owners : OwnerPlaces) (places : Places) (planned : IsPlanned features old.tables.interfaces.all (sizes (items_of old.tables)) foreign (own_parts p) owners places) where
      are_places : ArePlaces eq features old p foreign owners places
      are_places = record { found = found; planned = planned }

      own_refused : (fault : PushFault) → IsPartsCause features (length old.tables.packages) owners places (own_parts p) (items_of old.tables) fault → IsPushCause eq features old p fault
      own_refused (GateVersion at) c = absurd c
      own_refused (DuplicatePackage at) c = absurd c
      own_refused (PackageNotFound at) c = absurd c
      own_refused (ItemNotFound at) c = not_included foreign owners places are_places c
      own_refused (IncludeClash at) c = record { foreign = foreign; owners = owners; places = places; are_places = are_places; refused = c }
      own_refused (ExportConflict i at) c = record { foreign = foreign; owners = owners; places = places; are_places = are_places; refused = c }
      own_refused (ForeignShape at) c = record { foreign = foreign; owners = owners; places = places; are_places = are_places; breaks = c }
      own_refused OutOfMemory c = tt

    pub put_refused : (own : Parts) (owners : OwnerPlaces) (places : Places) → own ≡ own_parts p → IsPlanned features old.tables.interfaces.all (sizes (items_of old.tables)) foreign own owners places
        → (fault : PushFault) → IsPartsCause features (length old.tables.packages) owners places own (items_of old.tables) fault → IsPushCause eq features old p fault
    put_refused own owners places e planned fault c =
        own_refused owners places (subst (λ (q : Parts). IsPlanned features old.tables.interfaces.all (sizes (items_of old.tables)) foreign q owners places) e planned) fault
        (subst (λ (q : Parts). IsPartsCause features (length old.tables.packages) owners places q (items_of old.tables) fault) e c)
