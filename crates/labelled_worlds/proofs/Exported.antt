-- Names of functions that a world exports differ.
use Rattle.std.proofs.Common.{◌≡◌, ℕ, Bool, true, not, ◌&&◌, List, [], ◌∷◌, ◌++◌, ◌⊎◌, inl, inr, String, refl, sym, ap, ◌∙◌}
use Rattle.std.proofs.lemmas.Bool.{cases_Bool}
use Rattle.std.proofs.lemmas.Slice.Eq.{bytes_eq-Decides}
use Rattle.std.specs.Prelude.{string_bytes, bytes_eq, ◌||◌}
use Rattle.std.specs.List.{list_any}
use Rattle.std.specs.declared.alloc.Global.{Global}
use Rattle.distinct_names.specs.Names.{is_new, all_new}
use Rattle.wit_order.specs.Order.{Has}
use Rattle.wit_types.specs.declared.function.Function.{Function}
use Rattle.wit_types.specs.declared.world.World.{World}
use Rattle.wit_types.specs.declared.world.WorldItem.{WorldItem}
use Rattle.wit_types.specs.declared.world.WorldItem.TheVariants as item
use Rattle.wit_types.specs.declared.world_key.WorldKey.{WorldKey}
use Rattle.wit_types.specs.declared.world_key.WorldKey.TheVariants as key
use Rattle.wit_reach.proofs.Holding.{has_mapped}
use Rattle.wit_labelled_graphs.specs.Passed.wit_labels-Named.{IsSidePlain}
use Rattle.wit_labelled_graphs.specs.Passed.wit_labels-Plain.{ArePlainApart}
use Rattle.wit_labelled_graphs.proofs.Passed.wit_labels-Every.{each_at}
use Rattle.wit_labelled_graphs.specs.Named.{AreFunctionsUnderNames, IsNamedApart}
use Rattle.linked_imports.specs.Passed.component_imports-Functions.{function_names}
use Rattle.linked_imports.specs.Passed.link_table-Linking.{functions_at, exported_functions}
use Rattle.labelled_worlds.specs.Apart.{ExportedFunctionsAreApart}

-- ---- names that are new behind others

-- each is none of those behind it
abbrev AreApart : List (List ℕ) → Type 0
AreApart [] = Unit {0}
AreApart (x ∷ xs) = ((y : List ℕ) → Has xs y → x ≡ y → ⊥) × AreApart xs

none_equal : (name : List ℕ) (seen : List (List ℕ)) → ((x : List ℕ) → Has seen x → x ≡ name → ⊥) → is_new seen name ≡ true
none_equal name [] differ = refl
none_equal name (x ∷ seen) differ = elim (cases_Bool (bytes_eq name x)) as (λ _. is_new (x ∷ seen) name ≡ true) [
  | inl same ↦ absurd (differ x (inl refl) (sym ((bytes_eq-Decides name x).0 same)))
  | inr other ↦ ap (λ (b : Bool). not (b || list_any (bytes_eq name) seen)) other ∙ none_equal name seen (λ y h. differ y (inr h))
]

seen_or_last : (seen : List (List ℕ)) (name x : List ℕ) → Has (seen ++ name ∷ []) x → Has seen x ⊎ (x ≡ name)
seen_or_last [] name x (inl here) = inr here
seen_or_last [] name x (inr none) = absurd none
seen_or_last (y ∷ seen) name x (inl here) = inl (inl here)
seen_or_last (y ∷ seen) name x (inr later) = elim (seen_or_last seen name x later) as (λ _. Has (y ∷ seen) x ⊎ (x ≡ name)) [ inl was ↦ inl (inr was) | inr last ↦ inr last ]

new_behind : (seen names : List (List ℕ)) → ((x y : List ℕ) → Has seen x → Has names y → x ≡ y → ⊥) → AreApart names → all_new seen names ≡ true
new_behind seen [] cross apart = refl
new_behind seen (name ∷ names) cross apart =
    ap (λ (b : Bool). b && all_new (seen ++ name ∷ []) names) (none_equal name seen (λ x h same. cross x name h (inl refl) same))
    ∙ new_behind (seen ++ name ∷ []) names
    (λ x y h k same. elim (seen_or_last seen name x h) as (λ _. ⊥) [ inl was ↦ cross x y was (inr k) same | inr last ↦ apart.0 y k (sym last ∙ same) ]) apart.1

-- ---- functions of a side

-- a function has the name under which it stands
named : (es : List (WorldKey × WorldItem)) → IsSidePlain es → (x : String Global) (f : Function) → Has es (key.Name x, item.Function f) → string_bytes f.name ≡ string_bytes x
named [] h x f has = absurd has
named ((key.Name y, item.Function g) ∷ es) h x f (inl here) =
    let items : item.Function f ≡ item.Function g = ap (λ (e : WorldKey × WorldItem). e.1) here in
    let keys : key.Name x ≡ key.Name y = ap (λ (e : WorldKey × WorldItem). e.0) here in
    let one : f ≡ g = cc in
    let two : x ≡ y = cc in
    ap (λ (z : Function). string_bytes z.name) one ∙ h.0.1 ∙ ap (λ (z : String Global). string_bytes z) (sym two)
named ((key.Name y, item.Interface id stability span) ∷ es) h x f (inl here) = absurd (let e : item.Function f ≡ item.Interface id stability span = ap (λ (e : WorldKey × WorldItem). e.1) here in cc)
named ((key.Name y, item.TypeItem id span) ∷ es) h x f (inl here) = absurd (let e : item.Function f ≡ item.TypeItem id span = ap (λ (e : WorldKey × WorldItem). e.1) here in cc)
named ((key.Interface i, b) ∷ es) h x f (inl here) = absurd (let e : key.Name x ≡ key.Interface i = ap (λ (e : WorldKey × WorldItem). e.0) here in cc)
named (e ∷ es) h x f (inr later) = named es h.1 x f later

-- it stands under a plain name
entry_of : (es : List (WorldKey × WorldItem)) → AreFunctionsUnderNames es → (f : Function) → Has (functions_at es) f → (x : String Global) × Has es (key.Name x, item.Function f)
entry_of [] under f h = absurd h
entry_of ((k, item.Interface id stability span) ∷ es) under f h = (let r = entry_of es under.1 f h in (r.0, inr r.1))
entry_of ((k, item.TypeItem id span) ∷ es) under f h = (let r = entry_of es under.1 f h in (r.0, inr r.1))
entry_of ((key.Name x, item.Function g) ∷ es) under f (inl here) = (x, inl (ap (λ (z : Function). (key.Name x, item.Function z)) here))
entry_of ((key.Name x, item.Function g) ∷ es) under f (inr later) = (let r = entry_of es under.1 f later in (r.0, inr r.1))
entry_of ((key.Interface i, item.Function g) ∷ es) under f h = absurd under.0

functions_apart : (es : List (WorldKey × WorldItem)) → AreFunctionsUnderNames es → IsSidePlain es → ArePlainApart es → AreApart (function_names (functions_at es))
functions_apart [] under plain apart = tt
functions_apart ((key.Name x, item.Interface id stability span) ∷ es) under plain apart = functions_apart es under.1 plain.1 apart.1
functions_apart ((key.Interface i, item.Interface id stability span) ∷ es) under plain apart = functions_apart es under.1 plain.1 apart
functions_apart ((key.Name x, item.TypeItem id span) ∷ es) under plain apart = functions_apart es under.1 plain.1 apart.1
functions_apart ((key.Interface i, item.TypeItem id span) ∷ es) under plain apart = functions_apart es under.1 plain.1 apart
functions_apart ((key.Interface i, item.Function f) ∷ es) under plain apart = absurd under.0
functions_apart ((key.Name x, item.Function f) ∷ es) under plain apart = (
  λ y has same.
      (let g = has_mapped (λ (h : Function). string_bytes h.name) (functions_at es) y has in
      let e = entry_of es under.1 g.0 g.1 in
      apart.0 e.0 (item.Function g.0) e.1 (sym plain.0.1 ∙ same ∙ sym g.2 ∙ named es plain.1 e.0 g.0 e.1)),
  functions_apart es under.1 plain.1 apart.1,
)

exported_apart : (w : World) → IsNamedApart w → all_new [] (function_names (exported_functions w)) ≡ true
exported_apart w h =
    let es = w.exports.entries in
    let side = h.named.exports_named in
    new_behind [] (function_names (functions_at es)) (λ x y none has same. none) (functions_apart es h.under side.plain side.apart)

pub exported_functions_apart : ExportedFunctionsAreApart
exported_functions_apart t i l is names = exported_apart l.names.world (each_at IsNamedApart t.worlds.elaborated is.elaborated i l.names.world names.world_is)
