-- The sections of a component, as they are written.
use Rattle.std.proofs.Common.{◌≡◌, ℕ, ◌+◌, ◌<◌, Bool, true, false, ◌&&◌, List, [], ◌∷◌, ◌++◌, map, drop, length, ap, refl, sym, subst, ◌∙◌, arith}
use Rattle.std.specs.Prelude.{◌==◌}
use Rattle.std.specs.List.{All}
use Rattle.std.proofs.lemmas.List.{append-nil, length-drop}
use Rattle.binary_grammar.specs.Syntax.{bytes, IsTyped}
use Rattle.component_entries.specs.Runs.{run_of, vector_bytes, IsVector}
use Rattle.component_entries.specs.Entries.{an_alias, a_type, an_import, an_export, kind_of}
use Rattle.component_sections.specs.Component.{DefinitionValue, a_core_module, a_core_instance, a_component, an_instance, a_canonical, an_entry, definition_byte, alone, definition_behind, section_id_of, section_next, section_of, sections_of, first_section, section_bytes, IsSection}
use Rattle.component_entries.proofs.Neighbours.{front_begins, drop_further, Left, one_written, one_fails}

never : (a : Bool) → (a && false) ≡ false
never true = refl
never false = refl

-- none shares the section of a definition that has one for itself
no_run : (b : ℕ) → alone b ≡ true → (ds : List DefinitionValue) → run_of definition_byte alone b ds ≡ []
no_run b own [] = refl
no_run b own (d ∷ ds) = rw (own, never (definition_byte d == b)) refl

pub own_front : (d : DefinitionValue) (ds : List DefinitionValue) → alone (definition_byte d) ≡ true → first_section (d ∷ ds) ≡ d ∷ []
own_front d ds own = ap (λ r. d ∷ r) (no_run (definition_byte d) own ds)

pub own_spelled : (d : DefinitionValue) → alone (definition_byte d) ≡ true → section_bytes (section_of (d ∷ [])) ≡ definition_byte d ∷ bytes (definition_behind (section_id_of (definition_byte d))) d
unfolding section_next section_id_of kind_of
own_spelled (a_core_module xs) own = ap (λ s. 1 ∷ s) (append-nil _)
own_spelled (a_component c) own = ap (λ s. 4 ∷ s) (append-nil _)
own_spelled (a_core_instance i) own = absurd cc
own_spelled (an_instance i) own = absurd cc
own_spelled (a_canonical c) own = absurd cc
own_spelled (an_entry (an_alias a)) own = absurd cc
own_spelled (an_entry (a_type t)) own = absurd cc
own_spelled (an_entry (an_import i)) own = absurd cc
own_spelled (an_entry (an_export e)) own = absurd cc

pub own_typed : (d : DefinitionValue) → alone (definition_byte d) ≡ true → IsTyped (definition_behind (section_id_of (definition_byte d))) d → IsSection (section_of (d ∷ []))
unfolding section_next section_id_of kind_of
own_typed (a_core_module xs) own h = (h, tt)
own_typed (a_component c) own h = (h, tt)
own_typed (a_core_instance i) own h = absurd cc
own_typed (an_instance i) own h = absurd cc
own_typed (a_canonical c) own h = absurd cc
own_typed (an_entry (an_alias a)) own h = absurd cc
own_typed (an_entry (a_type t)) own h = absurd cc
own_typed (an_entry (an_import i)) own h = absurd cc
own_typed (an_entry (an_export e)) own h = absurd cc

pub typed_own : (d : DefinitionValue) → alone (definition_byte d) ≡ true → IsSection (section_of (d ∷ [])) → IsTyped (definition_behind (section_id_of (definition_byte d))) d
unfolding section_next section_id_of kind_of
typed_own (a_core_module xs) own h = h.0
typed_own (a_component c) own h = h.0
typed_own (a_core_instance i) own h = absurd cc
typed_own (an_instance i) own h = absurd cc
typed_own (a_canonical c) own h = absurd cc
typed_own (an_entry (an_alias a)) own h = absurd cc
typed_own (an_entry (a_type t)) own h = absurd cc
typed_own (an_entry (an_import i)) own h = absurd cc
typed_own (an_entry (an_export e)) own h = absurd cc

pub vector_spelled : (d : DefinitionValue) (ds : List DefinitionValue) → alone (definition_byte d) ≡ false → section_bytes (section_of (d ∷ ds)) ≡ vector_bytes definition_byte (λ b. definition_behind (section_id_of b)) (d ∷ ds)
unfolding section_next section_id_of kind_of
vector_spelled (a_core_module xs) ds other = absurd cc
vector_spelled (a_component c) ds other = absurd cc
vector_spelled (a_core_instance i) ds other = ap (λ s. 2 ∷ s) (append-nil _)
vector_spelled (an_instance i) ds other = ap (λ s. 5 ∷ s) (append-nil _)
vector_spelled (a_canonical c) ds other = ap (λ s. 8 ∷ s) (append-nil _)
vector_spelled (an_entry (an_alias a)) ds other = ap (λ s. 6 ∷ s) (append-nil _)
vector_spelled (an_entry (a_type t)) ds other = ap (λ s. 7 ∷ s) (append-nil _)
vector_spelled (an_entry (an_import i)) ds other = ap (λ s. 10 ∷ s) (append-nil _)
vector_spelled (an_entry (an_export e)) ds other = ap (λ s. 11 ∷ s) (append-nil _)

pub vector_typed : (d : DefinitionValue) (ds : List DefinitionValue) → alone (definition_byte d) ≡ false → IsVector definition_byte (λ b. definition_behind (section_id_of b)) (d ∷ ds) → IsSection (section_of (d ∷ ds))
unfolding section_next section_id_of kind_of
vector_typed (a_core_module xs) ds other h = absurd cc
vector_typed (a_component c) ds other h = absurd cc
vector_typed (a_core_instance i) ds other h = (h, tt)
vector_typed (an_instance i) ds other h = (h, tt)
vector_typed (a_canonical c) ds other h = (h, tt)
vector_typed (an_entry (an_alias a)) ds other h = (h, tt)
vector_typed (an_entry (a_type t)) ds other h = (h, tt)
vector_typed (an_entry (an_import i)) ds other h = (h, tt)
vector_typed (an_entry (an_export e)) ds other h = (h, tt)

pub typed_vector : (d : DefinitionValue) (ds : List DefinitionValue) → alone (definition_byte d) ≡ false → IsSection (section_of (d ∷ ds)) → IsVector definition_byte (λ b. definition_behind (section_id_of b)) (d ∷ ds)
unfolding section_next section_id_of kind_of
typed_vector (a_core_module xs) ds other h = absurd cc
typed_vector (a_component c) ds other h = absurd cc
typed_vector (a_core_instance i) ds other h = h.0
typed_vector (an_instance i) ds other h = h.0
typed_vector (a_canonical c) ds other h = h.0
typed_vector (an_entry (an_alias a)) ds other h = h.0
typed_vector (an_entry (a_type t)) ds other h = h.0
typed_vector (an_entry (an_import i)) ds other h = h.0
typed_vector (an_entry (an_export e)) ds other h = h.0

-- ---- what a loop over the sections keeps

pub sections_begin : (ds : List DefinitionValue) → 0 < length ds → sections_of ds ≡ section_of (first_section ds) ∷ sections_of (drop (length (first_section ds)) ds)
sections_begin ds h = ap (map section_of) (front_begins definition_byte alone ds h)

module _ (ds : List DefinitionValue) (at : ℕ) (begun out : List ℕ) (so_far : Left section_bytes IsSection (sections_of ds) (sections_of (drop at ds)) begun out) (more : at < length ds) where
  some_left : 0 < length (drop at ds)
  some_left = omega (arith, length-drop at ds)

  pub sections_go_on : (n : ℕ) → n ≡ length (first_section (drop at ds)) → (new : List ℕ) → new ≡ out ++ section_bytes (section_of (first_section (drop at ds))) → IsSection (section_of (first_section (drop at ds))) → Left section_bytes IsSection (sections_of ds) (sections_of (drop (at + n) ds)) begun new
  sections_go_on n count new added typed =
      let first = first_section (drop at ds) in
      let behind : drop (length first) (drop at ds) ≡ drop (at + n) ds = drop_further at (length first) ds ∙ ap (λ k. drop (at + k) ds) (sym count) in
      subst (λ es. Left section_bytes IsSection (sections_of ds) (sections_of es) begun new) behind
      (one_written section_bytes IsSection (sections_of ds) (sections_of (drop at ds)) begun out so_far (section_of first) (sections_of (drop (length first) (drop at ds))) (sections_begin (drop at ds) some_left) new added typed)

  pub sections_stop : (IsSection (section_of (first_section (drop at ds))) → ⊥) → All IsSection (sections_of ds) → ⊥
  sections_stop refused =
      one_fails section_bytes IsSection (sections_of ds) (sections_of (drop at ds)) begun out so_far (section_of (first_section (drop at ds))) (sections_of (drop (length (first_section (drop at ds))) (drop at ds))) (sections_begin (drop at ds) some_left) refused
