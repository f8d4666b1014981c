-- What is found is there.
use Rattle.std.proofs.Common.{◌≡◌, ℕ, zero, suc, ◌<◌, Bool, true, false, List, [], ◌∷◌, ◌++◌, ◌⊎◌, inl, inr, Option, Some, None, String, cond, refl, sym, subst, ap, length, map}
use Rattle.std.proofs.lemmas.Option.{same_Some}
use Rattle.std.specs.Map.{lookup}
use Rattle.std.specs.Prelude.{slice_get, flat_map, option_map, string_bytes, bytes_eq, if◌then◌else◌}
use Rattle.std.specs.declared.alloc.Global.{Global}
use Rattle.wit_plans.specs.Passed.wit_order-Order.{Has}
use Rattle.wit_plans.specs.Passed.wit_types-declared-interface-Interface.{Interface}
use Rattle.wit_plans.specs.Passed.wit_types-declared-interface-TypeDef.{TypeDef}
use Rattle.wit_plans.specs.Passed.wit_types-declared-interface-TypeOwner.{TypeOwner}
use Rattle.wit_plans.specs.Passed.wit_types-declared-interface-TypeOwner-TheVariants as belongs
use Rattle.wit_plans.specs.Passed.wit_types-declared-package-AstItem.{AstItem}
use Rattle.wit_plans.specs.Passed.wit_types-declared-package-AstItem-TheVariants as asked
use Rattle.wit_plans.specs.Passed.wit_types-declared-package-Package.{Package}
use Rattle.wit_plans.specs.Passed.wit_types-declared-package-PackageName.{PackageName}
use Rattle.wit_plans.specs.Passed.wit_types-declared-package-UnresolvedPackage.{UnresolvedPackage}
use Rattle.wit_plans.specs.Passed.wit_features-Features.{FeatureSet}
use Rattle.wit_moved_trees.specs.Passed.wit_moves-Moved.{Places, place_of}
use Rattle.wit_plans.specs.Passed.wit_finding-Asks.{Ask, ItemEntry, asks_at, asks_in, is_kept, item_in, finds, pair_of, found_by, items_of, interface_in, world_in}
use Rattle.wit_plans.specs.Passed.wit_finding-Foreign.{AreForeignPlaces}
use Rattle.wit_plans.specs.Passed.wit_finding-Places.{interface_pair, world_pair}
use Rattle.wit_plans.specs.Passed.wit_finding-Types.{type_in, interface_at, interface_of, type_found}
use Rattle.wit_moved_trees.proofs.Passed.wit_reach-Holding.{mapped_has}
use Rattle.wit_placed.proofs.Members.{has_get}
use Rattle.wit_moved_trees.specs.Passed.wit_reach-Types.{AreTypesThere}
use Rattle.wit_placed.specs.There.{AreBelow}
use Rattle.wit_placed.specs.Found.{FoundAreThere, FoundTypesAreThere}

-- ---- lists

pub has_or : {X : Type 0} (xs ys : List X) (x : X) → Has (xs ++ ys) x → Has xs x ⊎ Has ys x
has_or [] ys x h = inr h
has_or (z ∷ xs) ys x h =
    elim h as (λ _. Has (z ∷ xs) x ⊎ Has ys x) [
      | inl here ↦ inl (inl here)
      | inr later ↦ elim (has_or xs ys x later) as (λ _. Has (z ∷ xs) x ⊎ Has ys x) [ inl a ↦ inl (inr a) | inr b ↦ inr b ]
    ]

-- what is made of a list is made of one of it
pub flat_has : {X Y : Type 0} (f : X → List Y) (xs : List X) (y : Y) → Has (flat_map f xs) y → (x : X) × Has xs x × Has (f x) y
flat_has {X} {Y} f [] y h = absurd h
flat_has {X} {Y} f (x ∷ xs) y h =
    elim (has_or (f x) (flat_map f xs) y h) as (λ _. (z : X) × Has (x ∷ xs) z × Has (f z) y) [
      | inl a ↦ (x, inl refl, a)
      | inr b ↦ (let r = flat_has f xs y b in (r.0, inr r.1, r.2))
    ]

map_has : {X Y : Type 0} (f : X → Y) (xs : List X) (y : Y) → Has (map f xs) y → (x : X) × Has xs x × (y ≡ f x)
map_has {X} {Y} f [] y h = absurd h
map_has {X} {Y} f (x ∷ xs) y h =
    elim h as (λ _. (z : X) × Has (x ∷ xs) z × (y ≡ f z)) [
      | inl here ↦ (x, inl refl, here)
      | inr later ↦ (let r = map_has f xs y later in (r.0, inr r.1, r.2))
    ]

-- what is looked up is of the table
pub lookup_has : {K V : Type 0} (test : K → Bool) (es : List (K × V)) (v : V) → lookup test es ≡ Some v → (k : K) × Has es (k, v)
lookup_has {K} {V} test [] v h = absurd cc
lookup_has {K} {V} test (e ∷ es) v h = by_cases (test e.0) h (λ k. lookup_has test es v k)
  where
    by_cases : (b : Bool) → cond b (Some e.1) (lookup test es) ≡ Some v → (lookup test es ≡ Some v → (k : K) × Has es (k, v)) → (k : K) × Has (e ∷ es) (k, v)
    by_cases true h later = (e.0, inl (ap (λ (w : V). (e.0, w)) (sym (same_Some e.1 v h))))
    by_cases false h later = (let r = later h in (r.0, inr r.1))

option_of : {X Y : Type 0} (f : X → Y) (o : Option X) (y : Y) → option_map f o ≡ Some y → (x : X) × (o ≡ Some x) × (f x ≡ y)
option_of {X} {Y} f None y h = absurd cc
option_of {X} {Y} f (Some x) y h = (x, refl, same_Some (f x) y h)

-- ---- asked

module _ (P Q : ℕ → Type 0) where
  -- all interfaces and worlds that a package names are so
  pub record Names (p : Package) : Type 0 where
    pub interfaces_are : (e : String Global × ℕ) → Has p.interfaces.entries e → P e.1
    pub worlds_are : (e : String Global × ℕ) → Has p.worlds.entries e → Q e.1

  abbrev IsItemSo : AstItem → Type 0
  IsItemSo (asked.Interface i) = P i
  IsItemSo (asked.World i) = Q i

  item_so : (p : Package) (name : List ℕ) (item found : AstItem) → Names p → item_in p name item ≡ Some found → IsItemSo found
  item_so p name (asked.Interface i) found there h =
      let o = option_of asked.Interface (interface_in p name) found h in
      let r = lookup_has (λ (x : String Global). bytes_eq name (string_bytes x)) p.interfaces.entries o.0 o.1 in
      subst IsItemSo o.2 (there.interfaces_are (r.0, o.0) r.1)
  item_so p name (asked.World i) found there h =
      let o = option_of asked.World (world_in p name) found h in
      let r = lookup_has (λ (x : String Global). bytes_eq name (string_bytes x)) p.worlds.entries o.0 o.1 in
      subst IsItemSo o.2 (there.worlds_are (r.0, o.0) r.1)

  found_is_so : (features : FeatureSet) (a : Ask) (found : AstItem) → Names a.«package» → finds features a ≡ Some found → IsItemSo found
  found_is_so features a found there h = by_cases (is_kept features a) h
    where
      by_cases : (b : Bool) → (if b then item_in a.«package» a.name a.item else None) ≡ Some found → IsItemSo found
      by_cases true h = item_so a.«package» a.name a.item found there h
      by_cases false h = absurd cc

  pair_so : (i : AstItem) (o : Option AstItem) (pair : AstItem × AstItem) → ((j : AstItem) → o ≡ Some j → IsItemSo j) → Has (pair_of i o) pair → IsItemSo pair.1
  pair_so i None pair all h = absurd h
  pair_so i (Some j) pair all h = elim h as (λ _. IsItemSo pair.1) [ inl here ↦ subst (λ (q : AstItem × AstItem). IsItemSo q.1) (sym here) (all j refl) | inr later ↦ absurd later ]

  -- each ask is of one of the packages
  asked_at : (o : Option Package) (es : List ItemEntry) (a : Ask) → ((p : Package) → o ≡ Some p → Names p) → Has (asks_at o es) a → Names a.«package»
  asked_at None es a there h = absurd h
  asked_at (Some p) es a there h = (let r = map_has (λ (e : ItemEntry). record { «package» = p; name = string_bytes e.0; item = e.1.0; gates = e.1.1.items }) es a h in
      subst (λ (b : Ask). Names b.«package») (sym r.2) (there p refl))

  asked_in : (packages : List Package) (ids : List ℕ) (deps : List (List ItemEntry)) (a : Ask) → ((p : Package) → Has packages p → Names p) → Has (asks_in packages ids deps) a → Names a.«package»
  asked_in packages [] deps a there h = absurd h
  asked_in packages (i ∷ is) [] a there h = absurd h
  asked_in packages (i ∷ is) (d ∷ ds) a there h =
      elim (has_or (asks_at (slice_get packages i) d) (asks_in packages is ds) a h) as (λ _. Names a.«package») [
        | inl here ↦ asked_at (slice_get packages i) d a (λ p e. there p (has_get packages i p e)) here
        | inr later ↦ asked_in packages is ds a there later
      ]

  all_so : (features : FeatureSet) (asks : List Ask) → ((a : Ask) → Has asks a → Names a.«package») → (pair : AstItem × AstItem) → Has (found_by features asks) pair → IsItemSo pair.1
  all_so features asks there pair h =
      let r = flat_has (λ (a : Ask). pair_of a.item (finds features a)) asks pair h in
      pair_so r.0.item (finds features r.0) pair (λ j e. found_is_so features r.0 j (there r.0 r.1) e) r.2

  -- by their numbers
  interface_so : (pair : AstItem × AstItem) (i j : ℕ) → IsItemSo pair.1 → Has (interface_pair pair) (i, j) → P j
  interface_so (asked.Interface a, asked.Interface b) i j l h = elim h as (λ _. P j) [ inl here ↦ subst P (sym (ap (λ (q : ℕ × ℕ). q.1) here)) l | inr later ↦ absurd later ]
  interface_so (asked.Interface a, asked.World b) i j l h = absurd h
  interface_so (asked.World a, asked.Interface b) i j l h = absurd h
  interface_so (asked.World a, asked.World b) i j l h = absurd h

  world_so : (pair : AstItem × AstItem) (i j : ℕ) → IsItemSo pair.1 → Has (world_pair pair) (i, j) → Q j
  world_so (asked.World a, asked.World b) i j l h = elim h as (λ _. Q j) [ inl here ↦ subst Q (sym (ap (λ (q : ℕ × ℕ). q.1) here)) l | inr later ↦ absurd later ]
  world_so (asked.Interface a, asked.World b) i j l h = absurd h
  world_so (asked.World a, asked.Interface b) i j l h = absurd h
  world_so (asked.Interface a, asked.Interface b) i j l h = absurd h

  -- so are those that are found of them
  pub found_so : (eq : PackageName → PackageName → Bool) (features : FeatureSet) (names : List (PackageName × ℕ)) (packages : List Package) (p : UnresolvedPackage) (interfaces worlds : Places)
      → ((q : Package) → Has packages q → Names q) → AreForeignPlaces eq features names packages p interfaces worlds
      → ((i j : ℕ) → place_of interfaces i ≡ Some j → P j) × ((i j : ℕ) → place_of worlds i ≡ Some j → Q j)
  found_so eq features names packages p interfaces worlds there found =
      let asks : List Ask = asks_in packages found.ids (items_of p.foreign_deps.entries) in
      let all = all_so features asks (λ a h. asked_in packages found.ids (items_of p.foreign_deps.entries) a there h) in (
        (λ i j h. let r = flat_has interface_pair (found_by features asks) (i, j) (found.interfaces_are.sound i j h) in interface_so r.0 i j (all r.0 r.1) r.2),
        (λ i j h. let r = flat_has world_pair (found_by features asks) (i, j) (found.worlds_are.sound i j h) in world_so r.0 i j (all r.0 r.1) r.2),
      )

pub found_there : FoundAreThere
found_there eq features names packages p interfaces worlds n m there found =
    found_so (λ (j : ℕ). j < n) (λ (j : ℕ). j < m) eq features names packages p interfaces worlds (λ q h. (let t = there q h in record { interfaces_are = t.interfaces_are; worlds_are = t.worlds_are })) found

-- ---- types

module _ (interfaces : List Interface) (places : Places) (types : List TypeDef)
    (there : (d : Interface) → Has interfaces d → AreTypesThere types (map (λ (e : String Global × ℕ). e.1) d.types.entries))
  where
    in_below : (o : Option Interface) (name : Option (String Global)) (j : ℕ) → ((d : Interface) → o ≡ Some d → Has interfaces d) → type_in o name ≡ Some j → j < length types
    in_below None name j is h = absurd cc
    in_below (Some d) None j is h = absurd cc
    in_below (Some d) (Some x) j is h =
        let r = lookup_has (λ (n : String Global). bytes_eq (string_bytes x) (string_bytes n)) d.types.entries j h in
        there d (is d refl) j (mapped_has (λ (e : String Global × ℕ). e.1) d.types.entries (r.0, j) r.1)

    at_has : (o : Option ℕ) (d : Interface) → interface_at interfaces o ≡ Some d → Has interfaces d
    at_has None d h = absurd cc
    at_has (Some i) d h = has_get interfaces i d h

    of_has : (o : TypeOwner) (d : Interface) → interface_of interfaces places o ≡ Some d → Has interfaces d
    of_has (belongs.Interface i) d h = at_has (place_of places i) d h
    of_has (belongs.World w) d h = absurd cc
    of_has belongs.None d h = absurd cc

    types_below : (defs : List TypeDef) → AreBelow (length types) (map (type_found interfaces places) defs)
    types_below [] i j h = absurd cc
    types_below (d ∷ ds) zero j h = in_below (interface_of interfaces places d.owner) d.name j (of_has d.owner) h
    types_below (d ∷ ds) (suc i) j h = types_below ds i j h

pub found_types_there : FoundTypesAreThere
found_types_there interfaces places types defs there = types_below interfaces places types there defs
