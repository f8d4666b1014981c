-- Sides of worlds that say the same are joined to the same, clash where the other does, and have the same names.
use Rattle.std.proofs.Common.{◌≡◌, ℕ, Bool, true, false, cond, List, [], ◌∷◌, ◌++◌, Option, Some, None, refl, sym, ap, ap₂, subst, ◌∙◌, map, flat_map, option_map, append_assoc, append-nil, bytes_eq}
use Rattle.std.specs.Prelude.{string_bytes, slice_get, is_some, if◌then◌else◌}
use Rattle.std.specs.List.{list_any, list_all}
use Rattle.std.specs.Map.{lookup}
use Rattle.wit_words.specs.declared.source_map.Span.{Span}
use Rattle.wit_words.specs.Slice.{Slice}
use Rattle.wit_types.specs.declared.world.IncludeName.{IncludeName}
use Rattle.wit_types.specs.declared.world.World.{World}
use Rattle.wit_types.specs.declared.world.WorldItem.{WorldItem}
use Rattle.wit_types.specs.declared.world.WorldItem.TheVariants as item
use Rattle.wit_types.specs.declared.world_key.WorldKey.{WorldKey}
use Rattle.wit_types.specs.declared.world_key.WorldKey.TheVariants as key
use Rattle.wit_types.specs.World.{span_of}
use Rattle.wit_types.specs.WorldKey.{spelled, placed, known, known_eq, key_eq}
use Rattle.wit_rules.specs.Repeats.{IsRepeat}
use Rattle.wit_sides.specs.Known as names
use Rattle.wit_sides.specs.Known.{are_there}
use Rattle.wit_sides.specs.Sides.{plain_names, name_keys, IsClash, AreUnited, no_entries, first_of_its_key, key_again}
use Rattle.wit_push_causes.specs.Said
use Rattle.wit_push_causes.specs.Said.{SaidItem, SaidEntry, SaidWorld, item_said, entry_said, world_said}
use Rattle.wit_push_causes.proofs.Lists.{map_append}

abbrev Entries : Type 0
Entries = List (WorldKey × WorldItem)

-- ---- what stands under a key

found_by : (b : Bool) (i : WorldItem) (o : Option WorldItem) (p : Option SaidItem) → option_map item_said o ≡ p → option_map item_said (cond b (Some i) o) ≡ cond b (Some (item_said i)) p
found_by true i o p e = refl
found_by false i o p e = e

pub lookup_said : (k : WorldKey) (es : Entries) → option_map item_said (lookup (key_eq k) es) ≡ lookup (known_eq (known k)) (map entry_said es)
lookup_said k [] = refl
lookup_said k (e ∷ es) = found_by (key_eq k e.0) e.1 (lookup (key_eq k) es) (lookup (known_eq (known k)) (map entry_said es)) (lookup_said k es)

some_said : (o : Option WorldItem) → is_some (option_map item_said o) ≡ is_some o
some_said None = refl
some_said (Some i) = refl

is_there : (k : WorldKey) (es : Entries) → is_some (lookup (known_eq (known k)) (map entry_said es)) ≡ is_some (lookup (key_eq k) es)
is_there k es = ap is_some (sym (lookup_said k es)) ∙ some_said (lookup (key_eq k) es)

-- ---- entries of which equal ones are one

abbrev one_united : List SaidEntry → SaidEntry → List SaidEntry
one_united before e = if is_some (lookup (known_eq e.0) before) then [] else e ∷ []

abbrev united : List SaidEntry → List SaidEntry → List SaidEntry
united before [] = []
united before (e ∷ es) = one_united before e ++ united (before ++ e ∷ []) es

united_last : (before es : List SaidEntry) (e : SaidEntry) → united before (es ++ e ∷ []) ≡ united before es ++ one_united (before ++ es) e
united_last before [] e = append-nil (one_united before e) ∙ ap (λ (l : List SaidEntry). one_united l e) (sym (append-nil before))
united_last before (x ∷ es) e =
    ap (λ (l : List SaidEntry). one_united before x ++ l) (united_last (before ++ x ∷ []) es e)
    ∙ ap (λ (l : List SaidEntry). one_united before x ++ (united (before ++ x ∷ []) es ++ one_united l e)) (append_assoc before (x ∷ []) es)
    ∙ sym (append_assoc (one_united before x) (united (before ++ x ∷ []) es) (one_united (before ++ x ∷ es) e))

last_united : (es side : Entries) (e : WorldKey × WorldItem) (b : Bool) → map entry_said side ≡ united [] (map entry_said es) → is_some (lookup (key_eq e.0) es) ≡ b
    → united [] (map entry_said (es ++ e ∷ [])) ≡ map entry_said side ++ (if b then [] else entry_said e ∷ [])
last_united es side e b before there =
    ap (united []) (map_append entry_said es (e ∷ []))
    ∙ united_last [] (map entry_said es) (entry_said e)
    ∙ ap₂ (λ (l : List SaidEntry) (c : Bool). l ++ (if c then [] else entry_said e ∷ [])) (sym before) (is_there e.0 es ∙ there)

united_said : (es side : Entries) → AreUnited key_eq es side → map entry_said side ≡ united [] (map entry_said es)
united_said _ _ no_entries = refl
united_said _ _ (first_of_its_key es side e u new) = map_append entry_said side (e ∷ []) ∙ sym (last_united es side e false (united_said es side u) new)
united_said _ _ (key_again es side e u again) = sym (last_united es side e true (united_said es side u) again ∙ append-nil (map entry_said side))

pub united_same : (es fs xs ys : Entries) → map entry_said es ≡ map entry_said fs → AreUnited key_eq es xs → AreUnited key_eq fs ys → map entry_said xs ≡ map entry_said ys
united_same es fs xs ys same a b = united_said es xs a ∙ ap (united []) same ∙ sym (united_said fs ys b)

-- ---- clashes

abbrev said_span : SaidItem → Span
said_span (Said.an_interface id stability span) = span
said_span (Said.a_function f) = f.span
said_span (Said.a_type id span) = span

span_said : (i : WorldItem) → said_span (item_said i) ≡ span_of i
span_said (item.Interface id stability span) = refl
span_said (item.Function f) = refl
span_said (item.TypeItem id span) = refl

abbrev said_plain : SaidEntry → List Slice
said_plain (spelled x, i) = record { text = x; span = said_span i } ∷ []
said_plain (placed k, i) = []

plain_said : (es : Entries) → flat_map said_plain (map entry_said es) ≡ plain_names es
plain_said [] = refl
plain_said ((key.Name x, i) ∷ es) = ap₂ (λ (s : Span) (l : List Slice). record { text = string_bytes x; span = s } ∷ l) (span_said i) (plain_said es)
plain_said ((key.Interface k, i) ∷ es) = plain_said es

pub clash_same : (es fs : Entries) → map entry_said es ≡ map entry_said fs → (at : Span) → IsClash es at → IsClash fs at
clash_same es fs same at c =
    let plain : plain_names es ≡ plain_names fs = sym (plain_said es) ∙ ap (flat_map said_plain) same ∙ plain_said fs in
    record {
      place = c.place;
      again = subst (λ (l : List Slice). IsRepeat bytes_eq (name_keys l) c.place) plain c.again;
      there = subst (λ (l : List Slice). slice_get (map (λ (n : Slice). n.span) l) c.place ≡ Some at) plain c.there;
    }

-- ---- names

abbrev said_name : SaidEntry → List (List ℕ)
said_name (spelled x, i) = x ∷ []
said_name (placed k, i) = []

names_said : (es : Entries) → flat_map said_name (map entry_said es) ≡ names.names_of es
names_said [] = refl
names_said ((key.Name x, i) ∷ es) = ap (λ (l : List (List ℕ)). string_bytes x ∷ l) (names_said es)
names_said ((key.Interface k, i) ∷ es) = names_said es

names_same : (es fs : Entries) → map entry_said es ≡ map entry_said fs → names.names_of es ≡ names.names_of fs
names_same es fs same = sym (names_said es) ∙ ap (flat_map said_name) same ∙ names_said fs

pub there_same : (ns : List IncludeName) (w v : World) → world_said w ≡ world_said v → are_there ns w ≡ are_there ns v
there_same ns w v same =
    let plain : names.plain_names w ≡ names.plain_names v = ap₂ (λ (a b : List (List ℕ)). a ++ b) (names_same w.imports.entries v.imports.entries (ap (λ (z : SaidWorld). z.imports) same)) (names_same w.exports.entries v.exports.entries (ap (λ (z : SaidWorld). z.exports) same)) in
    ap (λ (l : List (List ℕ)). list_all (λ (n : IncludeName). list_any (bytes_eq (string_bytes n.name)) l) ns) plain
