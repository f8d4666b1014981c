-- The sections of a nested component, as they are written.
use Rattle.std.proofs.Common.{◌≡◌, ℕ, ◌+◌, ◌<◌, List, [], ◌∷◌, ◌++◌, map, drop, length, ap, sym, subst, ◌∙◌, arith}
use Rattle.std.specs.List.{All}
use Rattle.std.proofs.lemmas.List.{append-nil, length-drop}
use Rattle.component_entries.specs.Runs.{front, vector_bytes, IsVector}
use Rattle.component_entries.specs.Entries.{EntryValue, an_alias, a_type, an_import, an_export, entry_behind, kind_of}
use Rattle.component_entries.specs.Nested.{entry_byte, alone, section_of, sections_of, section_bytes, IsSection, nested_next, nested_form_of}
use Rattle.component_entries.proofs.Neighbours.{front_begins, drop_further, Left, one_written, one_fails}

pub sections_begin : (es : List EntryValue) → 0 < length es → sections_of es ≡ section_of (front entry_byte alone es) ∷ sections_of (drop (length (front entry_byte alone es)) es)
sections_begin es h = ap (map section_of) (front_begins entry_byte alone es h)

-- a section is its byte and a vector
pub section_spelled : (e : EntryValue) (es : List EntryValue) → section_bytes (section_of (e ∷ es)) ≡ vector_bytes entry_byte (λ b. entry_behind (kind_of b)) (e ∷ es)
unfolding nested_next nested_form_of kind_of
section_spelled (an_alias a) es = ap (λ s. 6 ∷ s) (append-nil _)
section_spelled (a_type t) es = ap (λ s. 7 ∷ s) (append-nil _)
section_spelled (an_import i) es = ap (λ s. 10 ∷ s) (append-nil _)
section_spelled (an_export x) es = ap (λ s. 11 ∷ s) (append-nil _)

pub section_typed : (e : EntryValue) (es : List EntryValue) → IsVector entry_byte (λ b. entry_behind (kind_of b)) (e ∷ es) → IsSection (section_of (e ∷ es))
unfolding nested_next nested_form_of kind_of
section_typed (an_alias a) es h = (h, tt)
section_typed (a_type t) es h = (h, tt)
section_typed (an_import i) es h = (h, tt)
section_typed (an_export x) es h = (h, tt)

pub typed_section : (e : EntryValue) (es : List EntryValue) → IsSection (section_of (e ∷ es)) → IsVector entry_byte (λ b. entry_behind (kind_of b)) (e ∷ es)
unfolding nested_next nested_form_of kind_of
typed_section (an_alias a) es h = h.0
typed_section (a_type t) es h = h.0
typed_section (an_import i) es h = h.0
typed_section (an_export x) es h = h.0

-- ---- what the loop over the sections keeps

module _ (es : List EntryValue) (at : ℕ) (begun out : List ℕ) (so_far : Left section_bytes IsSection (sections_of es) (sections_of (drop at es)) begun out) (more : at < length es) where
  abbrev pub first : List EntryValue
  first = front entry_byte alone (drop at es)

  some_left : 0 < length (drop at es)
  some_left = omega (arith, length-drop at es)

  first_spelled : (ds : List EntryValue) → 0 < length ds → section_bytes (section_of (front entry_byte alone ds)) ≡ vector_bytes entry_byte (λ b. entry_behind (kind_of b)) (front entry_byte alone ds)
  first_spelled [] h = absurd (omega arith)
  first_spelled (d ∷ ds) h = section_spelled d _

  first_typed : (ds : List EntryValue) → 0 < length ds → IsVector entry_byte (λ b. entry_behind (kind_of b)) (front entry_byte alone ds) → IsSection (section_of (front entry_byte alone ds))
  first_typed [] h t = absurd (omega arith)
  first_typed (d ∷ ds) h t = section_typed d _ t

  typed_first : (ds : List EntryValue) → 0 < length ds → IsSection (section_of (front entry_byte alone ds)) → IsVector entry_byte (λ b. entry_behind (kind_of b)) (front entry_byte alone ds)
  typed_first [] h t = absurd (omega arith)
  typed_first (d ∷ ds) h t = typed_section d _ t

  pub sections_go_on : (n : ℕ) → n ≡ length first → (new : List ℕ) → new ≡ out ++ vector_bytes entry_byte (λ b. entry_behind (kind_of b)) first → IsVector entry_byte (λ b. entry_behind (kind_of b)) first → Left section_bytes IsSection (sections_of es) (sections_of (drop (at + n) es)) begun new
  sections_go_on n count new added typed =
      let behind : drop (length first) (drop at es) ≡ drop (at + n) es = drop_further at (length first) es ∙ ap (λ k. drop (at + k) es) (sym count) in
      subst (λ ds. Left section_bytes IsSection (sections_of es) (sections_of ds) begun new) behind
      (one_written section_bytes IsSection (sections_of es) (sections_of (drop at es)) begun out so_far (section_of first) (sections_of (drop (length first) (drop at es))) (sections_begin (drop at es) some_left)
      new (added ∙ ap (λ s. out ++ s) (sym (first_spelled (drop at es) some_left))) (first_typed (drop at es) some_left typed))

  pub sections_stop : (IsVector entry_byte (λ b. entry_behind (kind_of b)) first → ⊥) → All IsSection (sections_of es) → ⊥
  sections_stop refused =
      one_fails section_bytes IsSection (sections_of es) (sections_of (drop at es)) begun out so_far (section_of first) (sections_of (drop (length first) (drop at es))) (sections_begin (drop at es) some_left)
      (λ h. refused (typed_first (drop at es) some_left h))
