-- Definitions that each may stand where they do are those of a component.
use Rattle.std.proofs.Common.{◌≡◌, Bool, true, false, ◌&&◌, not, eqb, List, [], ◌∷◌, map, Result, Ok, ap, refl, sym, subst, ◌∙◌}
use Rattle.binary_grammar.specs.Syntax.{bytes, IsTyped, Meets, EachWhere}
use Rattle.binary_grammar.specs.declared.fault.Rule.{Rule}
use Rattle.binary_grammar.proofs.Spelled.{spelled}
use Rattle.component_entries.specs.declared.entry.EntryKind.TheVariants as kinds
use Rattle.component_sections.specs.declared.section.SectionId.{SectionId}
use Rattle.component_sections.specs.declared.section.SectionId.TheVariants as ids
use Rattle.component_entries.specs.Runs.{joins, with_first, runs}
use Rattle.component_entries.specs.Entries.{DefinedValue, an_alias, a_type, an_import, an_export, kind_of}
use Rattle.component_sections.specs.Component.{DefinitionValue, a_core_module, a_core_instance, a_component, an_instance, a_canonical, an_entry, SectionValue, section_byte, section_id, section_id_of, definition_in, definition_byte, alone, with_definition, section_with, section_next, byte_of, section_of, sections_of, definitions_in, whole_sections, component, Follows, Follow, IsComponent}
use Rattle.component_entries.specs.Entries.{nothing}
use Rattle.component_entries.proofs.Neighbours.{joins_same}

-- a section that may stand there
abbrev MayStand : DefinedValue → SectionValue → Type 0
MayStand k s = Meets (section_next (byte_of s)) k s

-- ---- a section's byte tells which it is

stands_for : (i : SectionId) → section_id_of (section_byte i) ≡ Ok i
unfolding section_id_of kind_of
stands_for ids.Custom = refl
stands_for ids.CoreModule = refl
stands_for ids.CoreInstance = refl
stands_for ids.CoreType = refl
stands_for ids.Component = refl
stands_for ids.Instance = refl
stands_for ids.Canonical = refl
stands_for (ids.Entry kinds.Alias) = refl
stands_for (ids.Entry kinds.Type_) = refl
stands_for (ids.Entry kinds.Import) = refl
stands_for (ids.Entry kinds.Export) = refl

abbrev found : SectionId → Result SectionId Rule
found i = Ok i

same_id : (i j : SectionId) → found i ≡ found j → i ≡ j
same_id i j e = cc

tells : (i j : SectionId) → section_byte i ≡ section_byte j → i ≡ j
tells i j e = same_id i j (sym (stands_for i) ∙ ap section_id_of e ∙ stands_for j)

-- ---- one section

own_stands : (k : DefinedValue) (d : DefinitionValue) → alone (definition_byte d) ≡ true → Follows k d → MayStand k (section_of (d ∷ []))
unfolding section_next section_id_of kind_of
own_stands k (a_core_module xs) own h = (h, refl)
own_stands k (a_component c) own h = (h, refl)
own_stands k (a_core_instance i) own h = absurd cc
own_stands k (an_instance i) own h = absurd cc
own_stands k (a_canonical c) own h = absurd cc
own_stands k (an_entry (an_alias a)) own h = absurd cc
own_stands k (an_entry (a_type t)) own h = absurd cc
own_stands k (an_entry (an_import i)) own h = absurd cc
own_stands k (an_entry (an_export e)) own h = absurd cc

abbrev EachIn : SectionId → DefinedValue → List DefinitionValue → Type 0
EachIn i k ds = EachWhere (λ t d. Meets (definition_in i) t d) with_definition k ds

vector_stands : (k : DefinedValue) (d : DefinitionValue) (ds : List DefinitionValue) → alone (definition_byte d) ≡ false → EachIn (section_id d) k (d ∷ ds) → MayStand k (section_of (d ∷ ds))
unfolding section_next section_id_of kind_of
vector_stands k (a_core_module xs) ds other h = absurd cc
vector_stands k (a_component c) ds other h = absurd cc
vector_stands k (a_core_instance i) ds other h = ((tt, (h, refl)), refl)
vector_stands k (an_instance i) ds other h = ((tt, (h, refl)), refl)
vector_stands k (a_canonical c) ds other h = ((tt, (h, refl)), refl)
vector_stands k (an_entry (an_alias a)) ds other h = ((tt, (h, refl)), refl)
vector_stands k (an_entry (a_type t)) ds other h = ((tt, (h, refl)), refl)
vector_stands k (an_entry (an_import i)) ds other h = ((tt, (h, refl)), refl)
vector_stands k (an_entry (an_export e)) ds other h = ((tt, (h, refl)), refl)

stands_vector : (k : DefinedValue) (d : DefinitionValue) (ds : List DefinitionValue) → alone (definition_byte d) ≡ false → MayStand k (section_of (d ∷ ds)) → EachIn (section_id d) k (d ∷ ds)
unfolding section_next section_id_of kind_of
stands_vector k (a_core_module xs) ds other h = absurd cc
stands_vector k (a_component c) ds other h = absurd cc
stands_vector k (a_core_instance i) ds other h = h.0.1.0
stands_vector k (an_instance i) ds other h = h.0.1.0
stands_vector k (a_canonical c) ds other h = h.0.1.0
stands_vector k (an_entry (an_alias a)) ds other h = h.0.1.0
stands_vector k (an_entry (a_type t)) ds other h = h.0.1.0
stands_vector k (an_entry (an_import i)) ds other h = h.0.1.0
stands_vector k (an_entry (an_export e)) ds other h = h.0.1.0

pub tested : (b : Bool) (P : Type 0) → (b ≡ true → P) → (b ≡ false → P) → P
tested true P passes fails = passes refl
tested false P passes fails = fails refl

one_stands : (k : DefinedValue) (d : DefinitionValue) → Follows k d → MayStand k (section_of (d ∷ []))
one_stands k d h = tested (alone (definition_byte d)) (MayStand k (section_of (d ∷ []))) (λ own. own_stands k d own h) (λ other. vector_stands k d [] other (h, tt))

pub not_alone : (a b : Bool) → (a && not b) ≡ true → b ≡ false
not_alone true true e = absurd cc
not_alone true false e = refl
not_alone false b e = absurd cc

-- ---- one section after the other

abbrev AllStand : DefinedValue → List (List DefinitionValue) → Type 0
AllStand k rs = EachWhere MayStand section_with k (map section_of rs)

first_stands : (k : DefinedValue) (d : DefinitionValue) (rs : List (List DefinitionValue)) → Follows k d → AllStand (with_definition k d) rs → AllStand k (with_first definition_byte alone d rs)
first_stands k d [] h rest = (one_stands k d h, tt)
first_stands k d ([] ∷ rs) h rest = (one_stands k d h, rest.1)
first_stands k d ((e ∷ es) ∷ rs) h rest =
    tested (joins definition_byte alone (definition_byte d) e) (AllStand k (with_first definition_byte alone d ((e ∷ es) ∷ rs)))
    (λ j.
    let b = definition_byte d in
    let same = joins_same definition_byte alone b e j in
    let other : alone b ≡ false = not_alone (eqb (definition_byte e) b) (alone b) j in
    let each = stands_vector (with_definition k d) e es (ap alone same ∙ other) rest.0 in
    let whole = subst (λ i. EachIn i (with_definition k d) (e ∷ es)) (tells (section_id e) (section_id d) same) each in
    rw j (vector_stands k d (e ∷ es) other (h, whole), rest.1))
    (λ j. rw j (one_stands k d h, rest))

all_stand : (k : DefinedValue) (ds : List DefinitionValue) → Follow k ds → AllStand k (runs definition_byte alone ds)
all_stand k [] h = tt
all_stand k (d ∷ ds) h = first_stands k d (runs definition_byte alone ds) h.0 (all_stand (with_definition k d) ds h.1)

-- ---- the definitions stay

first_flat : (d : DefinitionValue) (rs : List (List DefinitionValue)) → definitions_in (map section_of (with_first definition_byte alone d rs)) ≡ d ∷ definitions_in (map section_of rs)
first_flat d [] = refl
first_flat d ([] ∷ rs) = refl
first_flat d ((e ∷ es) ∷ rs) =
    tested (joins definition_byte alone (definition_byte d) e) (definitions_in (map section_of (with_first definition_byte alone d ((e ∷ es) ∷ rs))) ≡ d ∷ definitions_in (map section_of ((e ∷ es) ∷ rs)))
    (λ j. rw j refl) (λ j. rw j refl)

pub all_flat : (ds : List DefinitionValue) → definitions_in (sections_of ds) ≡ ds
all_flat [] = refl
all_flat (d ∷ ds) = first_flat d (runs definition_byte alone ds) ∙ ap (λ es. d ∷ es) (all_flat ds)

-- ---- the whole

meets : (ds : List DefinitionValue) → Follow nothing ds → Meets component nothing ds
unfolding component whole_sections
meets ds h = (((refl, refl), all_stand nothing ds h), all_flat ds)

pub written_is_read : (ds : List DefinitionValue) → IsTyped component ds → Follow nothing ds → IsComponent (bytes component ds) ds
written_is_read ds typed h = spelled component nothing ds typed (meets ds h)
