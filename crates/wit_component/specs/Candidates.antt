-- What the link table's maps answer of a text: which items of a list have it.
use Rattle.std.specs.Prelude.{◌≡◌, ℕ, ◌<◌, List, [], ◌∷◌, ◌++◌, length, map, filter, slice_get, Option, Some, None, is_some, Bool, true, false, not, ◌&&◌, ◌||◌, bytes_eq, codes, if◌then◌else◌}
use denote.Ref.{Bor}
use Rattle.distinct_names.specs.Names.{is_new}
use Rattle.wit_component.specs.declared.fault.Fault.{Fault}
use Rattle.wit_component.specs.declared.fault.Fault.TheVariants as faults
use Rattle.wit_component.specs.declared.table.Table.{Table}
use Rattle.wit_component.specs.CoreNames.{root, standard, standard_export}
use Rattle.wit_component.specs.Linking.{CoreImport}
use Rattle.indexmap.specs.IndexMap.{IndexMap, get_by}
use Rattle.wit_component.specs.declared.table.Candidates.{Candidates}
use Rattle.wit_component.specs.declared.table.Candidates.TheVariants.{One, Several}

-- what a map has at a text
abbrev pub candidates : {S : Type 0} → IndexMap (Bor (List ℕ)) Candidates S → List ℕ → Option Candidates
candidates m q = get_by (λ k. bytes_eq q k.now) m

-- one more item of this place
abbrev pub with_one : Option Candidates → ℕ → Candidates
with_one None place = One place
with_one (Some found) place = Several

-- those of either kind
abbrev pub joined : Option Candidates → Option Candidates → Option Candidates
joined None other = other
joined (Some found) None = Some found
joined (Some found) (Some other) = Some Several

-- this is noted of the items that pass the test: none, the one and its place, or that there are several
abbrev pub Stands : {X : Type 0} → (X → Bool) → List X → Option Candidates → Type 0
Stands test xs None = filter test xs ≡ []
Stands {X} test xs (Some (One place)) = (x : X) × (slice_get xs place ≡ Some x) × (filter test xs ≡ x ∷ [])
Stands test xs (Some Several) = 1 < length (filter test xs)

-- and so for each text
abbrev pub Notes : {X : Type 0} → (X → List ℕ) → List X → (List ℕ → Option Candidates) → Type 0
Notes name xs look = (q : List ℕ) → Stands (λ x. bytes_eq (name x) q) xs (look q)

-- ---- what the core exports' texts answer

-- a core export has the text
abbrev pub has : (List ℕ → Option Candidates) → List ℕ → Bool
has look q = is_some (look q)

-- one of the texts that are still to come, whatever the world has
abbrev pub has_hook : Bool → (List ℕ → Option Candidates) → Bool
has_hook rejects look = has look (codes "__wasm_task_hook") || (has look (codes "cm32p2_initialize") || (not rejects && has look (codes "_initialize")))

-- the post-return of a function
abbrev pub has_post_return : Bool → (List ℕ → Option Candidates) → List ℕ → Bool
has_post_return rejects look name = has look (standard_export name ++ codes "_post") || (not rejects && has look (codes "cabi_post_" ++ name))

-- an exported function by its texts
abbrev pub named_by : Bool → (List ℕ → Option Candidates) → List ℕ → Option Candidates
named_by rejects look name = if rejects then look (standard_export name) else joined (look (standard_export name)) (look name)

-- ---- the imports' names

-- the names that are imported under a module text
abbrev pub names_in : List CoreImport → List ℕ → List (List ℕ)
names_in is place = map (λ i. i.name) (filter (λ i. bytes_eq i.place place) is)

-- the name of an import is added under its module text
pub record NameAdded (old new : Table) (place name : List ℕ) : Type 0 where
  pub known : (bytes_eq place standard || bytes_eq place root) ≡ true
  pub fresh : is_new (if bytes_eq place standard then old.standard else old.legacy) name ≡ true
  pub legacy : new.legacy ≡ (if bytes_eq place root then old.legacy ++ name ∷ [] else old.legacy)
  pub standard : new.standard ≡ (if bytes_eq place standard then old.standard ++ name ∷ [] else old.standard)
  pub imports : new.imports ≡ old.imports
  pub exports : new.exports ≡ old.exports

-- why it isn't
abbrev pub IsNameCause : Table → List ℕ → List ℕ → Fault → Type 0
IsNameCause old place name faults.DuplicateImport = (((bytes_eq place standard || bytes_eq place root) ≡ true) × (is_new (if bytes_eq place standard then old.standard else old.legacy) name ≡ false))
IsNameCause old place name faults.UnknownImport = (bytes_eq place standard || bytes_eq place root) ≡ false
IsNameCause old place name faults.OutOfMemory = Unit {0}
IsNameCause old place name faults.NotYet = ⊥
IsNameCause old place name faults.Ambiguous = ⊥
IsNameCause old place name faults.LegacyName = ⊥
IsNameCause old place name faults.WrongCoreType = ⊥
IsNameCause old place name faults.MissingCoreExport = ⊥
IsNameCause old place name faults.TooLarge = ⊥
