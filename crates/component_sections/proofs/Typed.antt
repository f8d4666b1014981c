-- Each definition of a component whose numbers, lengths, counts and sizes fit, fits.
use Rattle.std.proofs.Common.{◌≡◌, ℕ, true, eqb, List, [], ◌∷◌, map, refl, sym, subst}
use Rattle.std.specs.List.{All}
use Rattle.std.proofs.lemmas.List.Elements.{All-nil, All-cons, All-head, All-tail, All-append}
use Rattle.binary_grammar.specs.Syntax.{IsTyped}
use Rattle.component_entries.specs.Runs.{joins, with_first, runs}
use Rattle.component_entries.proofs.Neighbours.{joins_same}
use Rattle.component_sections.specs.Component.{DefinitionValue, section_id, section_id_of, definition_in, definition_behind, definition_byte, alone, section_of, definitions_in, whole_sections, component, IsSection}
use Rattle.component_sections.proofs.SectionBytes.{id_again}
use Rattle.component_sections.proofs.WholeSections.{typed_own, typed_vector}
use Rattle.component_sections.proofs.Following.{tested, not_alone, all_flat}

-- as it stands in its section
abbrev pub Typed : DefinitionValue → Type 0
Typed d = IsTyped (definition_in (section_id d)) d

-- ---- a section's definitions go into one section

abbrev Joined : ℕ → List DefinitionValue → Type 0
Joined b [] = Unit {0}
Joined b (d ∷ ds) = (joins definition_byte alone b d ≡ true) × Joined b ds

abbrev IsRun : List DefinitionValue → Type 0
IsRun [] = ⊥
IsRun (d ∷ ds) = Joined (definition_byte d) ds

abbrev AreRuns : List (List DefinitionValue) → Type 0
AreRuns [] = Unit {0}
AreRuns (r ∷ rs) = IsRun r × AreRuns rs

first_is : (d : DefinitionValue) (rs : List (List DefinitionValue)) → AreRuns rs → AreRuns (with_first definition_byte alone d rs)
first_is d [] h = (tt, tt)
first_is d ([] ∷ rs) h = absurd h.0
first_is d ((e ∷ es) ∷ rs) h =
    tested (joins definition_byte alone (definition_byte d) e) (AreRuns (with_first definition_byte alone d ((e ∷ es) ∷ rs)))
    (λ j. rw j ((j, subst (λ b. Joined b es) (joins_same definition_byte alone (definition_byte d) e j) h.0), h.1))
    (λ j. rw j (tt, h))

runs_are : (ds : List DefinitionValue) → AreRuns (runs definition_byte alone ds)
runs_are [] = tt
runs_are (d ∷ ds) = first_is d (runs definition_byte alone ds) (runs_are ds)

-- ---- each of a section is typed

with_byte : (b : ℕ) (d : DefinitionValue) → definition_byte d ≡ b → IsTyped (definition_behind (section_id_of b)) d → Typed d
with_byte b d same h = subst (λ s. IsTyped s d) (id_again (section_id d)) (subst (λ c. IsTyped (definition_behind (section_id_of c)) d) (sym same) h)

rest_typed : (b : ℕ) (ds : List DefinitionValue) → Joined b ds → All (IsTyped (definition_behind (section_id_of b))) ds → All Typed ds
rest_typed b [] j h = All-nil Typed
rest_typed b (d ∷ ds) j h =
    let item = IsTyped (definition_behind (section_id_of b)) in
    All-cons Typed d ds (with_byte b d (joins_same definition_byte alone b d j.0) (All-head item d ds h)) (rest_typed b ds j.1 (All-tail item d ds h))

none_joins : (b : ℕ) (d : DefinitionValue) → alone b ≡ true → joins definition_byte alone b d ≡ true → ⊥
none_joins b d own j = let other = not_alone (eqb (definition_byte d) b) (alone b) j in absurd cc

run_typed : (d : DefinitionValue) (ds : List DefinitionValue) → Joined (definition_byte d) ds → IsSection (section_of (d ∷ ds)) → All Typed (d ∷ ds)
run_typed d ds j h =
    let b = definition_byte d in
    tested (alone b) (All Typed (d ∷ ds))
    (λ own. alone_typed d ds own j h)
    (λ other.
    let item = IsTyped (definition_behind (section_id_of b)) in
    let each = (typed_vector d ds other h).0.1 in
    All-cons Typed d ds (with_byte b d refl (All-head item d ds each)) (rest_typed b ds j (All-tail item d ds each)))
  where
    alone_typed : (d : DefinitionValue) (ds : List DefinitionValue) → alone (definition_byte d) ≡ true → Joined (definition_byte d) ds → IsSection (section_of (d ∷ ds)) → All Typed (d ∷ ds)
    alone_typed d [] own j h = All-cons Typed d [] (with_byte (definition_byte d) d refl (typed_own d own h)) (All-nil Typed)
    alone_typed d (e ∷ es) own j h = absurd (none_joins (definition_byte d) e own j.0)

all_runs : (rs : List (List DefinitionValue)) → AreRuns rs → All IsSection (map section_of rs) → All Typed (definitions_in (map section_of rs))
all_runs [] r h = All-nil Typed
all_runs ([] ∷ rs) r h = absurd r.0
all_runs ((d ∷ ds) ∷ rs) r h =
    All-append Typed (d ∷ ds) (definitions_in (map section_of rs)) (run_typed d ds r.0 (All-head IsSection (section_of (d ∷ ds)) (map section_of rs) h)) (all_runs rs r.1 (All-tail IsSection (section_of (d ∷ ds)) (map section_of rs) h))

pub all_typed : (ds : List DefinitionValue) → IsTyped component ds → All Typed ds
unfolding component whole_sections
all_typed ds h = subst (All Typed) (all_flat ds) (all_runs (runs definition_byte alone ds) (runs_are ds) h.1)
