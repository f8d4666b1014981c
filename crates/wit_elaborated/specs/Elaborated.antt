-- What a world imports in the end (Component Model, WIT, Worlds).
use Rattle.std.specs.Prelude.{ℕ, List, [], ◌∷◌, ◌++◌, map, flat_map, slice_get, option_map, unwrap_or}
use Rattle.std.specs.Map.{lookup}
use Rattle.wit_reach.specs.Passed.wit_words-declared-source_map-Span.{Span}
use Rattle.wit_reach.specs.Passed.wit_types-declared-interface-Interface.{Interface}
use Rattle.wit_reach.specs.Passed.wit_types-declared-stability-Stability-TheVariants.{Unknown}
use Rattle.wit_reach.specs.Passed.wit_types-declared-world-WorldItem.{WorldItem}
use Rattle.wit_reach.specs.Passed.wit_types-declared-world-WorldItem-TheVariants as item
use Rattle.wit_reach.specs.Passed.wit_types-declared-world_key-WorldKey.{WorldKey}
use Rattle.wit_reach.specs.Passed.wit_types-declared-world_key-WorldKey-TheVariants as key
use Rattle.wit_reach.specs.Passed.wit_types-WorldKey.{key_eq}

abbrev pub Entry : Type 0
Entry = WorldKey × WorldItem

-- where an interface is declared
abbrev pub declared_at : List Interface → ℕ → Span
declared_at ds i = unwrap_or (option_map (λ (d : Interface). d.span) (slice_get ds i)) (record { start = 0; end = 0 })

-- an interface that a world doesn't list
abbrev pub implied : List Interface → ℕ → WorldItem
implied ds i = item.Interface i Unknown (declared_at ds i)

abbrev pub implied_entry : List Interface → ℕ → Entry
implied_entry ds i = (key.Interface i, implied ds i)

-- as the world lists it, if it does
abbrev pub imported : List Interface → List Entry → ℕ → WorldItem
imported ds es i = unwrap_or (lookup (key_eq (key.Interface i)) es) (implied ds i)

abbrev pub plain : WorldKey → WorldItem → List Entry
plain (key.Name n) x = (key.Name n, x) ∷ []
plain (key.Interface i) x = []

abbrev pub plain_entries : List Entry → List Entry
plain_entries es = flat_map (λ (e : Entry). plain e.0 e.1) es

-- the interfaces of the order, and then what has a plain name
abbrev pub elaborated : List Interface → List ℕ → List Entry → List Entry
elaborated ds order es = map (λ (i : ℕ). (key.Interface i, imported ds es i)) order ++ plain_entries es

-- the interfaces that a side lists
abbrev pub interface_key : WorldKey → List ℕ
interface_key (key.Name n) = []
interface_key (key.Interface i) = i ∷ []

abbrev pub interface_keys : List Entry → List ℕ
interface_keys es = flat_map (λ (e : Entry). interface_key e.0) es
