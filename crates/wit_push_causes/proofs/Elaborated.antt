-- Worlds that say the same import the same in the end.
use Rattle.std.proofs.Common.{◌≡◌, ℕ, List, [], ◌∷◌, ◌++◌, Option, Some, None, refl, sym, ap, ap₂, ◌∙◌, map, flat_map, option_map}
use Rattle.std.specs.Prelude.{slice_get, unwrap_or}
use Rattle.std.specs.Map.{lookup}
use Rattle.wit_words.specs.declared.source_map.Span.{Span}
use Rattle.wit_order.specs.Places.{Rows}
use Rattle.wit_types.specs.declared.interface.Interface.{Interface}
use Rattle.wit_types.specs.declared.interface.TypeDef.{TypeDef}
use Rattle.wit_types.specs.declared.world.World.{World}
use Rattle.wit_types.specs.declared.world.WorldItem.{WorldItem}
use Rattle.wit_types.specs.declared.world_key.WorldKey.{WorldKey}
use Rattle.wit_types.specs.declared.world_key.WorldKey.TheVariants as key
use Rattle.wit_types.specs.WorldKey.{spelled, placed, known_eq, key_eq}
use Rattle.wit_elaborated.specs.Elaborated.{declared_at, implied, imported, plain_entries, elaborated}
use Rattle.wit_elaborated.specs.Worlds.{IsElaboratedWorld}
use Rattle.wit_push_causes.specs.Said
use Rattle.wit_push_causes.specs.Said.{SaidInterface, SaidItem, SaidEntry, SaidWorld, type_said, interface_said, item_said, entry_said, world_said}
use Rattle.wit_push_causes.proofs.Lists.{map_append, same_get}
use Rattle.wit_push_causes.proofs.Uses.{UseTheSame, order_one}
use Rattle.wit_push_causes.proofs.Sides.{lookup_said}

-- ---- entries

found_or : (o : Option WorldItem) (x : WorldItem) → item_said (unwrap_or o x) ≡ unwrap_or (option_map item_said o) (item_said x)
found_or None x = refl
found_or (Some i) x = refl

abbrev said_imported : Span → List SaidEntry → ℕ → SaidItem
said_imported at es i = unwrap_or (lookup (known_eq (placed i)) es) (Said.an_interface i Said.no_gate at)

imported_said : (ds : List Interface) (es : List (WorldKey × WorldItem)) (i : ℕ) → item_said (imported ds es i) ≡ said_imported (declared_at ds i) (map entry_said es) i
imported_said ds es i =
    found_or (lookup (key_eq (key.Interface i)) es) (implied ds i)
    ∙ ap (λ (o : Option SaidItem). unwrap_or o (Said.an_interface i Said.no_gate (declared_at ds i))) (lookup_said (key.Interface i) es)

abbrev said_plain : SaidEntry → List SaidEntry
said_plain (spelled x, i) = (spelled x, i) ∷ []
said_plain (placed k, i) = []

plain_said : (es : List (WorldKey × WorldItem)) → map entry_said (plain_entries es) ≡ flat_map said_plain (map entry_said es)
plain_said [] = refl
plain_said ((key.Name x, i) ∷ es) = ap (λ (l : List SaidEntry). entry_said (key.Name x, i) ∷ l) (plain_said es)
plain_said ((key.Interface k, i) ∷ es) = plain_said es

abbrev span_or : Option Span → Span
span_or o = unwrap_or o (record { start = 0; end = 0 })

span_from : (o : Option Interface) → span_or (option_map (λ (d : Interface). d.span) o) ≡ span_or (option_map (λ (d : SaidInterface). d.span) (option_map interface_said o))
span_from None = refl
span_from (Some d) = refl

declared_same : (ds es : List Interface) → map interface_said ds ≡ map interface_said es → (i : ℕ) → declared_at ds i ≡ declared_at es i
declared_same ds es same i =
    span_from (slice_get ds i)
    ∙ ap (λ (o : Option SaidInterface). span_or (option_map (λ (d : SaidInterface). d.span) o)) (same_get interface_said ds es same i)
    ∙ sym (span_from (slice_get es i))

module _ (ds es : List Interface) (same : map interface_said ds ≡ map interface_said es) (xs ys : List (WorldKey × WorldItem)) (entries : map entry_said xs ≡ map entry_said ys) where
  order_same : (order : List ℕ) → map entry_said (map (λ (i : ℕ). (key.Interface i, imported ds xs i)) order) ≡ map entry_said (map (λ (i : ℕ). (key.Interface i, imported es ys i)) order)
  order_same [] = refl
  order_same (i ∷ order) =
      let item : item_said (imported ds xs i) ≡ item_said (imported es ys i) =
      imported_said ds xs i ∙ ap₂ (λ (s : Span) (l : List SaidEntry). said_imported s l i) (declared_same ds es same i) entries ∙ sym (imported_said es ys i) in
      ap₂ (λ (x : SaidItem) (l : List SaidEntry). (placed i, x) ∷ l) item (order_same order)

  elaborated_entries : (order : List ℕ) → map entry_said (elaborated ds order xs) ≡ map entry_said (elaborated es order ys)
  elaborated_entries order =
      map_append entry_said (map (λ (i : ℕ). (key.Interface i, imported ds xs i)) order) (plain_entries xs)
      ∙ ap₂ (λ (a b : List SaidEntry). a ++ b) (order_same order) (plain_said xs ∙ ap (flat_map said_plain) entries ∙ sym (plain_said ys))
      ∙ sym (map_append entry_said (map (λ (i : ℕ). (key.Interface i, imported es ys i)) order) (plain_entries ys))

-- ---- worlds

pub elaborated_same : (ds es : List TypeDef) → map type_said ds ≡ map type_said es → (is js : List Interface) → map interface_said is ≡ map interface_said js → (g h : Rows) → UseTheSame g h
    → (w v x y : World) → world_said w ≡ world_said v → IsElaboratedWorld ds is g w x → IsElaboratedWorld es js h v y → world_said x ≡ world_said y
elaborated_same ds es types is js interfaces g h rows w v x y world a b =
    let order : a.order ≡ b.order = order_one ds es types g h rows w v world a.lists b.lists a.listed b.listed a.order b.order a.elaboration b.elaboration in
    let imports : map entry_said x.imports.entries ≡ map entry_said y.imports.entries =
    ap (map entry_said) a.imports
    ∙ elaborated_entries is js interfaces w.imports.entries v.imports.entries (ap (λ (z : SaidWorld). z.imports) world) a.order
    ∙ ap (λ (l : List ℕ). map entry_said (elaborated js l v.imports.entries)) order
    ∙ sym (ap (map entry_said) b.imports) in
    ap world_said a.rest
    ∙ ap₂ (λ (l : List SaidEntry) (z : SaidWorld). record z { imports = l }) imports world
    ∙ sym (ap world_said b.rest)
