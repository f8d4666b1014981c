-- Packages of texts that were pushed are in the graph, with interfaces and worlds that stay.
use Rattle.std.proofs.Common.{◌≡◌, ◌++◌, ◌∷◌, ◌⊎◌, ◌<◌, ℕ, zero, suc, Bool, List, [], Some, length, map, inl, inr, refl, sym, subst, ap, ◌∙◌, arith}
use Rattle.std.proofs.lemmas.Option.{same_Some, slice_get_within}
use Rattle.std.specs.Prelude.{slice_get}
use Rattle.std.specs.List.{AllZip}
use Rattle.wit_words.specs.Sources.{SourceText, total}
use Rattle.wit_syntax.specs.Ast.{FileTree}
use Rattle.wit_order.specs.Order as order
use Rattle.wit_types.specs.declared.interface.Interface.{Interface}
use Rattle.wit_types.specs.declared.world.World.{World}
use Rattle.wit_types.specs.declared.«package».Package.{Package}
use Rattle.wit_types.specs.declared.«package».PackageName.{PackageName}
use Rattle.wit_types.specs.declared.«package».UnresolvedPackage.{UnresolvedPackage}
use Rattle.wit_features.specs.Features.{FeatureSet}
use Rattle.wit_arena.specs.Meaning.{Has}
use Rattle.wit_arena.proofs.Lists.{has_left, has_right}
use Rattle.wit_offsets.specs.Offsets.{package_at}
use Rattle.wit_nested.specs.Nested.{own_files, nested_files}
use Rattle.wit_resolution.specs.Passed.wit_package-declared-group-UnresolvedPackageGroup.{UnresolvedPackageGroup}
use Rattle.wit_resolution.specs.Passed.wit_package-Steps.{Resolves}
use Rattle.wit_package_order.specs.Packages.{AreAt}
use Rattle.wit_pushed_trees.specs.Passed.wit_graph-Graph.{Graph}
use Rattle.wit_pushed_trees.specs.Passed.wit_graph-Push.{IsPushed}
use Rattle.wit_pushed_trees.specs.Passed.wit_graph-declared-tables-Tables.{Tables}
use Rattle.wit_reach.proofs.Growing.{get_same}
use Rattle.wit_resolution.specs.Passed.wit_groups-Pushed.{ArePushed}
use Rattle.wit_resolution.specs.Groups.{packages_of, packages_behind}
use Rattle.wit_resolution.specs.Texts.{IsGroupOf}
use Rattle.wit_resolution.specs.Pushes.{Resolved, AreTextsPushed}
use Rattle.wit_pushed_trees.specs.Asked.{text_of}
use Rattle.wit_types.specs.WorldKey.{placed}
use Rattle.wit_arena.specs.Tree.{Name, Owner}
use Rattle.wit_scopes.specs.Members.{MemberTree}
use Rattle.wit_pushed_trees.specs.StayingWorlds.{Entry, HasKnown}
use Rattle.wit_pushed_trees.specs.StayingInner.{ListsInner}
use Rattle.wit_pushed_trees.specs.Found.{IsInterfaceOf, IsWorldOf, TellsNamesApart, NamesOfGraphStand, EmptyNamesStand, PushedNamesStand}
use Rattle.wit_pushed_trees.specs.There.{ItemScope, item_scopes, HasItems, ListsItems, ResolvedPackagesHaveTheirItems, MovedPackagesHaveTheirItems, PushedPackagesListTheirItems}
use Rattle.wit_pushed_trees.proofs.Finding.{same_text}
use Rattle.wit_pushed_trees.proofs.MeantWorlds.{worlds_grow}
use Rattle.text_graphs.specs.Coming.{IsCall, features, pushed, refused, ComeOfTexts, nothing, after, pushed_with, pushes_with}
use Rattle.text_graphs.specs.Meant.{own, nested}
use Rattle.text_graphs.specs.There.{IsPackageThere, ArePackagesThere, AreAllThere, TextPackagesAreThere}

-- ---- packages that are there

-- packages of a graph are in another, and its interfaces and worlds stand there under their ids
record AreKept (old new : Tables) : Type 0 where
  packages : (q : Package) → Has old.packages q → Has new.packages q
  interfaces : (i : ℕ) (d : Interface) → slice_get old.interfaces.all i ≡ Some d → slice_get new.interfaces.all i ≡ Some d
  worlds : (i : ℕ) (w : World) → slice_get old.worlds.listed i ≡ Some w → slice_get new.worlds.listed i ≡ Some w

all_kept : (t : Tables) → AreKept t t
all_kept t = record { packages = λ q has. has; interfaces = λ i d at. at; worlds = λ i w at. at }

kept_after : (a b c : Tables) → AreKept a b → AreKept b c → AreKept a c
kept_after a b c first second = record { packages = λ q has. second.packages q (first.packages q has); interfaces = λ i d at. second.interfaces i d (first.interfaces i d at); worlds = λ i w at. second.worlds i w (first.worlds i w at) }

items_kept : (set : FeatureSet) (old new : Tables) → AreKept old new → (ts : List ItemScope) (q : Package) → ListsItems set ts q old → ListsItems set ts q new
items_kept set old new kept ts q lists = record {
  only_interfaces = lists.only_interfaces;
  only_worlds = lists.only_worlds;
  interfaces_are = λ t has stay. (
      let d = lists.interfaces_are t has stay in record {
        name = d.name;
        interface_id = d.interface_id;
        listed = d.listed;
        text = d.text;
        made = d.made;
        there = kept.interfaces d.interface_id d.made d.there;
        members = d.members;
      });
  worlds_are = λ t has stay. (
      let w = lists.worlds_are t has stay in record {
        name = w.name;
        world_id = w.world_id;
        listed = w.listed;
        text = w.text;
        made = w.made;
        there = kept.worlds w.world_id w.made w.there;
        sides = w.sides;
        paths = record { imports_are = λ l x named same keep. path_kept _ _ (w.paths.imports_are l x named same keep); exports_are = λ l x named same keep. path_kept _ _ (w.paths.exports_are l x named same keep) };
        inners = record { imports_are = λ l ns named same keep. inner_kept _ l.name.text ns (w.inners.imports_are l ns named same keep); exports_are = λ l ns named same keep. inner_kept _ l.name.text ns (w.inners.exports_are l ns named same keep) };
        includes = λ i has keep. (
            let n = w.includes i has keep in record {
              world_id = n.world_id;
              is = world_kept _ n.world_id n.is;
              included = n.included;
              there = kept.worlds n.world_id n.included n.there;
              names = n.names;
              names_are = n.names_are;
              imports_are = n.imports_are;
              exports_are = n.exports_are;
            });
      });
}
  where
    interface_kept : (w : Owner) (k : ℕ) → IsInterfaceOf old.packages w k → IsInterfaceOf new.packages w k
    interface_kept w k is = record { «package» = is.«package»; there = kept.packages is.«package» is.there; text = is.text; name = is.name; listed = is.listed; place_is = is.place_is }

    world_kept : (w : Owner) (k : ℕ) → IsWorldOf old.packages w k → IsWorldOf new.packages w k
    world_kept w k is = record { «package» = is.«package»; there = kept.packages is.«package» is.there; text = is.text; name = is.name; listed = is.listed; place_is = is.place_is }

    inner_kept : (es : List Entry) (x : Name) (ns : List MemberTree) → ListsInner set old.interfaces.all es x ns → ListsInner set new.interfaces.all es x ns
    inner_kept es x ns d = record { interface_id = d.interface_id; listed = d.listed; made = d.made; there = kept.interfaces d.interface_id d.made d.there; members = d.members }

    path_kept : (es : List Entry) (w : Owner) → (k : ℕ) × HasKnown es (placed k) × IsInterfaceOf old.packages w k → (k : ℕ) × HasKnown es (placed k) × IsInterfaceOf new.packages w k
    path_kept es w (k, known, is) = (k, known, interface_kept w k is)

kept_there : (set : FeatureSet) (old new : Tables) → AreKept old new → (source : List SourceText) → ArePackagesThere set old source → ArePackagesThere set new source
kept_there set old new kept source there = record {
  all = there.all;
  read = there.read;
  each = λ files are. (
      let e = there.each files are in record {
        «package» = e.«package»;
        resolves = e.resolves;
        pushed = e.pushed;
        there = kept.packages e.pushed e.there;
        named = e.named;
        items = items_kept set old new kept (item_scopes files e.«package» e.resolves) e.pushed e.items;
      });
}

-- one of the name is there, with those interfaces and worlds of the package that stay
record IsThere (set : FeatureSet) (t : Tables) (ts : List ItemScope) (p : UnresolvedPackage) : Type 0 where
  pushed : Package
  there : Has t.packages pushed
  named : text_of pushed.name ≡ text_of p.name
  items : ListsItems set ts pushed t

abbrev ListsAll : FeatureSet → Tables → UnresolvedPackage → Type 0
ListsAll set t p = (ts : List ItemScope) → HasItems ts p → IsThere set t ts p

lists_more : (set : FeatureSet) (old new : Tables) → AreKept old new → (p : UnresolvedPackage) → ListsAll set old p → ListsAll set new p
lists_more set old new kept p lists ts have = (let is = lists ts have in record { pushed = is.pushed; there = kept.packages is.pushed is.there; named = is.named; items = items_kept set old new kept ts is.pushed is.items })

-- ---- pushes

module _ (eq : PackageName → PackageName → Bool) (tells : TellsNamesApart eq) (stands : PushedNamesStand) (set : FeatureSet) (listed : PushedPackagesListTheirItems) where
  -- what was there is there when a package has come
  pushed_kept : (old : Graph) (p : UnresolvedPackage) (new : Graph) (id : ℕ) → IsPushed eq set old p new id → AreKept old.tables new.tables
  pushed_kept old p new id is =
      let added = is.put.added in
      let own = added.parts.own_interfaces in
      let worlds = worlds_grow _ _ _ added.parts.own_worlds.moved _ _ added.parts.own_worlds.added in
      record {
        packages = λ q has. subst (λ (qs : List Package). Has qs q) (sym added.packages_are) (has_left old.tables.packages (added.q ∷ []) q has);
        interfaces = λ i d at. ap (λ (ds : List Interface). slice_get ds i) own.added.all_are ∙ (get_same old.tables.interfaces.all own.moved i (slice_get_within old.tables.interfaces.all i d at) ∙ at);
        worlds = λ i w at. ap (λ (ws : List World). slice_get ws i) worlds.1 ∙ (get_same old.tables.worlds.listed worlds.0 i (slice_get_within old.tables.worlds.listed i w at) ∙ at);
      }

  -- and so is that package
  pushed_there : (old : Graph) (p : UnresolvedPackage) (new : Graph) (id : ℕ) → NamesOfGraphStand old → IsPushed eq set old p new id → ListsAll set new.tables p
  pushed_there old p new id stand is ts have =
      let added = is.put.added in
      record {
        pushed = added.q;
        there = subst (λ (qs : List Package). Has qs added.q) (sym added.packages_are) (has_right old.tables.packages (added.q ∷ []) added.q (0, refl));
        named = ap text_of added.is_package.name_is ∙ sym (same_text p.name is.put.same is.put.is_same);
        items = listed ts eq set old p new id tells stand have is;
      }

  each_kept : (old : Graph) (ps : List UnresolvedPackage) (new : Graph) → ArePushed eq set old ps new → AreKept old.tables new.tables
  each_kept old [] new same = subst (λ (g : Graph). AreKept old.tables g.tables) (sym same) (all_kept old.tables)
  each_kept old (p ∷ ps) new (next, whole, is, more) = kept_after old.tables next.tables new.tables (pushed_kept old p next _ is) (each_kept next ps new more)

  each_stands : (old : Graph) (ps : List UnresolvedPackage) (new : Graph) → ArePushed eq set old ps new → NamesOfGraphStand old → NamesOfGraphStand new
  each_stands old [] new same stand = subst NamesOfGraphStand (sym same) stand
  each_stands old (p ∷ ps) new (next, whole, is, more) stand = each_stands next ps new more (stands eq set old p next _ is stand)

  each_there : (old : Graph) (ps : List UnresolvedPackage) (new : Graph) → ArePushed eq set old ps new → NamesOfGraphStand old → (p : UnresolvedPackage) → order.Has ps p → ListsAll set new.tables p
  each_there old [] new same stand p has = absurd has
  each_there old (q ∷ ps) new (next, whole, is, more) stand p has = elim has as (λ _. ListsAll set new.tables p) [
    | inl here ↦ subst (ListsAll set new.tables) (sym here) (lists_more set next.tables new.tables (each_kept next ps new more) q (pushed_there old q next _ stand is))
    | inr later ↦ each_there next ps new more (stands eq set old q next _ is stand) p later
  ]

-- ---- an order has all

place_of : (ps : List UnresolvedPackage) (p : UnresolvedPackage) → order.Has ps p → (i : ℕ) × (i < length ps) × (slice_get ps i ≡ Some p)
place_of [] p has = absurd has
place_of (q ∷ ps) p has = elim has as (λ _. (i : ℕ) × (i < length (q ∷ ps)) × (slice_get (q ∷ ps) i ≡ Some p)) [
  | inl here ↦ (zero, omega (arith), ap (λ (x : UnresolvedPackage). Some x) (sym here))
  | inr later ↦ (let r = place_of ps p later in (suc r.0, omega (arith, r.1), r.2))
]

at_there : (ps : List UnresolvedPackage) (is : List ℕ) (sorted : List UnresolvedPackage) → AreAt ps is sorted → (i : ℕ) (p : UnresolvedPackage) → order.Has is i → slice_get ps i ≡ Some p → order.Has sorted p
at_there ps [] sorted are i p has at = absurd has
at_there ps (j ∷ is) [] are i p has at = absurd cc
at_there ps (j ∷ is) (q ∷ sorted) are i p has at =
    let here : slice_get ps j ≡ Some q = cc in
    let later : AreAt ps is sorted = cc in
    elim has as (λ _. order.Has (q ∷ sorted) p) [
      | inl same ↦ inl (same_Some p q (sym at ∙ (ap (slice_get ps) same ∙ here)))
      | inr rest ↦ inr (at_there ps is sorted later i p rest at)
    ]

-- ---- groups

module _ (resolved : ResolvedPackagesHaveTheirItems) (moved : MovedPackagesHaveTheirItems) (set : FeatureSet) (there : Tables) where
  abbrev AreListed : List UnresolvedPackage → Type 0
  AreListed ps = (p : UnresolvedPackage) → order.Has ps p → ListsAll set there p

  front : (xs ys : List UnresolvedPackage) → AreListed (xs ++ ys) → AreListed xs
  front [] ys are p has = absurd has
  front (x ∷ xs) ys are p has = elim has as (λ _. ListsAll set there p) [ inl here ↦ are p (inl here) | inr later ↦ front xs ys (λ q h. are q (inr h)) p later ]

  back : (xs ys : List UnresolvedPackage) → AreListed (xs ++ ys) → AreListed ys
  back [] ys are p has = are p has
  back (x ∷ xs) ys are p has = back xs ys (λ q h. are q (inr h)) p has

  -- wherever texts of a package stand, it is there if the one behind those texts is
  unmoved_one : (n : ℕ) (p : UnresolvedPackage) → ListsAll set there (package_at n p) → ListsAll set there p
  unmoved_one n p lists ts have = (let is = lists ts (moved ts p n have) in record { pushed = is.pushed; there = is.there; named = is.named; items = is.items })

  unmoved : (n : ℕ) (ps : List UnresolvedPackage) → AreListed (map (package_at n) ps) → AreListed ps
  unmoved n [] are p has = absurd has
  unmoved n (q ∷ ps) are p has = elim has as (λ _. ListsAll set there p) [
    | inl here ↦ subst (ListsAll set there) (sym here) (unmoved_one n q (are (package_at n q) (inl refl)))
    | inr later ↦ unmoved n ps (λ x h. are x (inr h)) p later
  ]

  of_files : (files : List FileTree) (p : UnresolvedPackage) → Resolves files p → ListsAll set there p → IsPackageThere set there files
  of_files files p r lists = (let is = lists (item_scopes files p r) (resolved files p r) in record { «package» = p; resolves = r; pushed = is.pushed; there = is.there; named = is.named; items = is.items })

  nested_there : (files : List FileTree) (ps : List UnresolvedPackage) → length ps ≡ length files
      → ((k : ℕ) (f : FileTree) (p : UnresolvedPackage) → slice_get files k ≡ Some f → slice_get ps k ≡ Some p → Resolves (f ∷ []) p)
      → AreListed ps → (f : FileTree) → Has files f → IsPackageThere set there (f ∷ [])
  nested_there [] ps so_many each are f (k, at) = absurd cc
  nested_there (g ∷ files) [] so_many each are f (k, at) = absurd (omega (arith, so_many))
  nested_there (g ∷ files) (q ∷ ps) so_many each are f (zero, at) = of_files (f ∷ []) q (each zero f q at refl) (are q (inl refl))
  nested_there (g ∷ files) (q ∷ ps) so_many each are f (suc k, at) = nested_there files ps (omega (arith, so_many)) (λ i x y. each (suc i) x y) (λ x h. are x (inr h)) f (k, at)

  group_there : (source : List SourceText) (g : UnresolvedPackageGroup) → IsGroupOf source g → AreListed (packages_of g) → ArePackagesThere set there source
  group_there source g is are = record {
    all = is.parsed.files;
    read = is.parsed.read;
    each = λ files of. elim of as (λ _. IsPackageThere set there files) [
      | own same ↦ subst (IsPackageThere set there) (sym same) (of_files (own_files is.parsed.files) g.main is.parsed.resolved.main_is (are g.main (inl refl)))
      | nested f has same ↦ subst (IsPackageThere set there) (sym same) (nested_there (nested_files is.parsed.files) g.nested.items is.parsed.resolved.nested_are.so_many is.parsed.resolved.nested_are.each (λ p h. are p (inr h)) f has)
    ];
  }

  groups_there : (texts : List SourceText) (files : List (List SourceText)) (gs : List UnresolvedPackageGroup) → AllZip IsGroupOf files gs → AreListed (packages_behind texts gs) → (source : List SourceText) → order.Has files source → ArePackagesThere set there source
  groups_there texts [] gs zip are source has = absurd has
  groups_there texts (f ∷ fs) [] zip are source has = absurd zip
  groups_there texts (f ∷ fs) (g ∷ gs) zip are source has = elim has as (λ _. ArePackagesThere set there source) [
    | inl here ↦ subst (ArePackagesThere set there) (sym here) (group_there f g zip.0 (unmoved (total texts) (packages_of g) (front (map (package_at (total texts)) (packages_of g)) (packages_behind (texts ++ g.source_map) gs) are)))
    | inr later ↦ groups_there (texts ++ g.source_map) fs gs zip.1 (back (map (package_at (total texts)) (packages_of g)) (packages_behind (texts ++ g.source_map) gs) are) source later
  ]

-- ---- calls

-- texts that a call pushed, each with the features that were active
with_set : (set : FeatureSet) (files : List (List SourceText)) (other : FeatureSet) (source : List SourceText) → order.Has {X = FeatureSet × List SourceText} (map (λ (f : List SourceText). (set, f)) files) (other, source) → (other ≡ set) × order.Has files source
with_set set [] other source has = absurd has
with_set set (f ∷ files) other source has = elim has as (λ _. (other ≡ set) × order.Has (f ∷ files) source) [
  | inl here ↦ (ap (λ (e : FeatureSet × List SourceText). e.0) here, inl (ap (λ (e : FeatureSet × List SourceText). e.1) here))
  | inr later ↦ (let r = with_set set files other source later in (r.0, inr r.1))
]

has_cases : {X : Type 0} (xs ys : List X) (x : X) → order.Has (xs ++ ys) x → order.Has xs x ⊎ order.Has ys x
has_cases [] ys x has = inr has
has_cases (z ∷ xs) ys x has = elim has as (λ _. order.Has (z ∷ xs) x ⊎ order.Has ys x) [
  | inl here ↦ inl (inl here)
  | inr later ↦ elim (has_cases xs ys x later) as (λ _. order.Has (z ∷ xs) x ⊎ order.Has ys x) [ inl one ↦ inl (inr one) | inr other ↦ inr other ]
]

module _ (resolved : ResolvedPackagesHaveTheirItems) (moved : MovedPackagesHaveTheirItems) (listed : PushedPackagesListTheirItems) (empty : EmptyNamesStand) (stands : PushedNamesStand) (eq : PackageName → PackageName → Bool) (tells : TellsNamesApart eq) where
  texts_there : (old new : Resolved) (files : List (List SourceText)) (id : ℕ) → AreTextsPushed eq old files new id → NamesOfGraphStand old.graph → (source : List SourceText) → order.Has files source → ArePackagesThere old.features new.graph.tables source
  texts_there old new files id h stand source has =
      let t = h.pushed.pushed in
      let all : List UnresolvedPackage = packages_behind old.texts h.groups in
      groups_there resolved moved old.features new.graph.tables old.texts files h.groups h.are_groups
      (λ p p_has. (let at = place_of all p p_has in each_there eq tells stands old.features listed old.graph t.sorted new.graph t.pushed stand p (at_there all t.order t.sorted t.are_sorted at.0 p (t.is_order.is_order.all at.0 at.1) at.2)))
      source has

  call_kept : (old new : Resolved) → IsCall eq old new → AreKept old.graph.tables new.graph.tables
  call_kept old new (features set is) = subst (λ (g : Graph). AreKept old.graph.tables g.tables) (sym (ap (λ (r : Resolved). r.graph) is)) (all_kept old.graph.tables)
  call_kept old new (pushed files id is) = each_kept eq tells stands old.features listed old.graph is.pushed.pushed.sorted new.graph is.pushed.pushed.pushed
  call_kept old new (refused files is) = subst (λ (g : Graph). AreKept old.graph.tables g.tables) (sym is.kept.graph) (all_kept old.graph.tables)

  call_stands : (old new : Resolved) → IsCall eq old new → NamesOfGraphStand old.graph → NamesOfGraphStand new.graph
  call_stands old new (features set is) stand = subst NamesOfGraphStand (sym (ap (λ (r : Resolved). r.graph) is)) stand
  call_stands old new (pushed files id is) stand = each_stands eq tells stands old.features listed old.graph is.pushed.pushed.sorted new.graph is.pushed.pushed.pushed stand
  call_stands old new (refused files is) stand = subst NamesOfGraphStand (sym is.kept.graph) stand

  call_there : (old new : Resolved) (call : IsCall eq old new) → NamesOfGraphStand old.graph → (set : FeatureSet) (source : List SourceText) → order.Has (pushed_with eq old new call) (set, source) → ArePackagesThere set new.graph.tables source
  call_there old new (features other is) stand set source has = absurd has
  call_there old new (refused files is) stand set source has = absurd has
  call_there old new (pushed files id is) stand set source has = (let w = with_set old.features files set source has in subst (λ (s : FeatureSet). ArePackagesThere s new.graph.tables source) (sym w.0) (texts_there old new files id is stand source w.1))

  names_stand : (r : Resolved) → ComeOfTexts eq r → NamesOfGraphStand r.graph
  names_stand r nothing = empty
  names_stand r (after old new come call) = call_stands old new call (names_stand old come)

  all_there : (r : Resolved) (come : ComeOfTexts eq r) → AreAllThere (pushes_with eq r come) r.graph.tables
  all_there r nothing set source has = absurd has
  all_there r (after old new come call) set source has = elim (has_cases (pushes_with eq old come) (pushed_with eq old new call) (set, source) has) as (λ _. ArePackagesThere set new.graph.tables source) [
    | inl was ↦ kept_there set old.graph.tables new.graph.tables (call_kept old new call) source (all_there old come set source was)
    | inr now ↦ call_there old new call (names_stand old come) set source now
  ]

pub packages_there : ResolvedPackagesHaveTheirItems → MovedPackagesHaveTheirItems → PushedPackagesListTheirItems → EmptyNamesStand → PushedNamesStand → TextPackagesAreThere
packages_there resolved moved listed empty stands eq tells r come = all_there resolved moved listed empty stands eq tells r come
