-- Texts that are put at places.
use Rattle.std.proofs.Common.{◌≡◌, ℕ, ◌+◌, ◌<◌, Bool, true, false, List, [], ◌∷◌, ◌++◌, length, map, get_or, set, Option, Some, None, String, refl, sym, subst, ap, ◌∙◌, arith, length-append, zero, suc}
use Rattle.std.proofs.lemmas.List.{map-append, map-set, length-map, get_or-map}
use Rattle.std.proofs.lemmas.Slice.Eq.{bytes_eq-Decides}
use Rattle.std.specs.Prelude.{option_map, string_bytes, bytes_eq}
use Rattle.std.specs.declared.alloc.Global.{Global}
use Rattle.interface_names.specs.Found.{Texts, texts_of, text_at, AreNone, Puts, first, again, another, text_or_empty, or_empty}

abbrev Slots : Type 0
Slots = List (Option (String Global))

-- ---- none yet

none_last : (texts : Texts) → ((place : ℕ) → text_at texts place ≡ None) → (place : ℕ) → text_at (texts ++ None ∷ []) place ≡ None
none_last [] none zero = refl
none_last [] none (suc place) = refl
none_last (x ∷ texts) none zero = none zero
none_last (x ∷ texts) none (suc place) = none_last texts (λ p. none (suc p)) place

pub none_more : (old new : Slots) (so_many : ℕ) → new ≡ old ++ None ∷ [] → AreNone (texts_of old) so_many → AreNone (texts_of new) (so_many + 1)
none_more old new so_many now none =
    subst (λ (texts : Texts). AreNone texts (so_many + 1)) (sym (ap texts_of now ∙ map-append (option_map string_bytes) old (None ∷ [])))
    (record { length_is = (let l = length-append (texts_of old) (None ∷ []) in let m = none.length_is in omega (arith, l, m)); none = none_last (texts_of old) none.none })

-- ---- one is put

module _ (slots : Slots) (place : ℕ) (here : Option (String Global)) (text : String Global) (within : place < length slots) (is : here ≡ get_or slots place here) where
  read : text_at (texts_of slots) place ≡ option_map string_bytes here
  read = get_or-map (option_map string_bytes) slots place here None within ∙ ap (option_map string_bytes) (sym is)

  pub put_none : here ≡ None → Puts (texts_of slots) place (string_bytes text) true (texts_of (set slots place (Some text)))
  put_none empty =
      first (let l = length-map slots (option_map string_bytes) in omega (arith, l, within)) (read ∙ ap (option_map string_bytes) empty) refl
      (map-set (option_map string_bytes) slots place (Some text))

  pub put_some : (other : String Global) (a b : List ℕ) (alone : Bool) → here ≡ Some other → a ≡ string_bytes other → b ≡ string_bytes text → alone ≡ bytes_eq a b → Puts (texts_of slots) place (string_bytes text) alone (texts_of slots)
  put_some other a b alone found left right answer = by (bytes_eq a b) refl
    where
      there : text_at (texts_of slots) place ≡ Some (string_bytes other)
      there = read ∙ ap (option_map string_bytes) found

      by : (r : Bool) → bytes_eq a b ≡ r → Puts (texts_of slots) place (string_bytes text) alone (texts_of slots)
      by true e = again (there ∙ ap (λ (t : List ℕ). Some t) (sym left ∙ (bytes_eq-Decides a b).0 e ∙ right)) (answer ∙ e) refl
      by false e = another (string_bytes other) there (λ same. let yes_it_is = (bytes_eq-Decides a b).1 (left ∙ same ∙ sym right) in let differ : false ≡ true = sym e ∙ yes_it_is in absurd cc) (answer ∙ e) refl

-- ---- names of texts

pub name_next : (old new : List (String Global)) (slots : Slots) (slot : Option (String Global)) (name : String Global) → map string_bytes old ≡ or_empty (texts_of slots) → string_bytes name ≡ text_or_empty (option_map string_bytes slot) → new ≡ old ++ name ∷ []
    → map string_bytes new ≡ or_empty (texts_of (slots ++ slot ∷ []))
name_next old new slots slot name was is now =
    ap (map string_bytes) now ∙ map-append string_bytes old (name ∷ []) ∙ ap (λ (l : List (List ℕ)). l ++ string_bytes name ∷ []) was ∙ ap (λ (t : List ℕ). or_empty (texts_of slots) ++ t ∷ []) is
    ∙ sym (ap or_empty (map-append (option_map string_bytes) slots (slot ∷ [])) ∙ map-append text_or_empty (texts_of slots) (option_map string_bytes slot ∷ []))
