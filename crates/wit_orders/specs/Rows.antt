-- Entries by places: what each needs, in the order in which it names it.
use Rattle.std.specs.Prelude.{◌≡◌, ℕ, Bool, true, List, [], ◌∷◌, map, flat_map, take, Option, Some, None, is_some, slice_get}
use Rattle.std.specs.List.{list_all}
use Rattle.name_places.specs.FirstPlaces.{place_of}
use Rattle.wit_words.specs.Slice.{Slice}
use Rattle.wit_order.specs.Places.{Rows}
use Rattle.wit_orders.specs.Needs.{Name, Entry, labels}

abbrev pub some_place : Option ℕ → List ℕ
some_place None = []
some_place (Some p) = p ∷ []

-- the places of names among these; a name that is none of them has none
abbrev pub places_in : List Name → List Slice → List ℕ
places_in names needs = flat_map (λ x. some_place (place_of x.text names)) needs

abbrev pub row_of : List Name → Entry → List ℕ
row_of names e = places_in names e.needs

-- the rows are what each entry needs
abbrev pub AreRows : List Entry → Rows → Type 0
AreRows es rows = map (λ r. r.items) rows ≡ map (row_of (labels es)) es

-- none of the entries names anything
abbrev pub AreWithoutNeeds : List Entry → Type 0
AreWithoutNeeds es = (i : ℕ) (one : Entry) → slice_get es i ≡ Some one → one.needs ≡ []

-- whether these names are all among those
abbrev pub are_among : List Name → List Slice → Bool
are_among names needs = list_all (λ n. is_some (place_of n.text names)) needs

-- each name that an entry needs is that of an entry in front of it
abbrev pub AreBehindNeeds : List Entry → Type 0
AreBehindNeeds es = (i : ℕ) (one : Entry) → slice_get es i ≡ Some one → are_among (take i (labels es)) one.needs ≡ true
