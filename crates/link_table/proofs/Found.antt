-- What is found by names.
use Rattle.std.proofs.Common.{◌≡◌, ℕ, ◌<◌, Bool, true, false, List, map, length, Option, Some, None, Result, Ok, Err, inl, inr, refl, sym, ap, ◌∙◌, arith}
use Rattle.std.proofs.lemmas.List.{length-map}
use Rattle.std.proofs.lemmas.Option.{slice_get_within, slice_get-map, slice_get-get_or}
use Rattle.std.specs.Option.{is_some}
use Rattle.std.specs.Bool.{then_some}
use Rattle.std.specs.Prelude.{slice_get, get_or, option_map, option_and_then, IfOk, IfErr}
use Rattle.wasm_types.specs.declared.entries.Export.{Export}
use Rattle.wasm_types.specs.Entries.{ImportValue, ExportValue, export_value}
use Rattle.wit_types.specs.declared.function.Function.{Function}
use Rattle.wit_types.specs.declared.mangling.AbiVariant.{AbiVariant}
use Rattle.wit_core_names.specs.Items.{CoreImport}
use Rattle.linked_types.proofs.Walks.{has_at}
use Rattle.core_links.specs.Names.{Names, counts_legacy}
use Rattle.core_links.specs.Exports.{IsFoundAs, IsUnclear, IsUnclearCause}
use Rattle.core_links.specs.Imports.{StandsFor}
use Rattle.core_links.specs.declared.fault.LinkFault.{LinkFault}
use Rattle.core_links.specs.declared.fault.LinkFault.TheVariants as link_faults
use Rattle.canonical_options.specs.Options.{where_asked}
use Rattle.link_lines.specs.declared.encoding.StringEncoding.{StringEncoding}
use Rattle.link_table.specs.Coming.{IsSomewhere}
use Rattle.link_table.specs.Linking.{Linking, IsImported}
use Rattle.link_table.specs.View.{name_at}
use Rattle.link_table.specs.Options.{Naming, IsThere, IsMissing, IsReallocAt, IsOwnReallocName, own_realloc_name, IsMemoryAt, IsMemoryName, IsMemoryIf, IsTypedRealloc, IsReallocIf}

-- ---- imports

abbrev function_part : CoreImport → Option Function
function_part (CoreImport.func key f) = Some f
function_part (CoreImport.intrinsic key resource what) = None

pub as_imported : (n : Names) (i : ImportValue) (x : CoreImport) → StandsFor n i x → IsImported n i (function_part x)
as_imported n i (CoreImport.func key f) s = (key, s)
as_imported n i (CoreImport.intrinsic key resource what) s = (key, resource, what, s)

-- ---- somewhere

pub at_somewhere : (l : Linking) (Is : Naming) (place : ℕ) → IsThere l Is place → IsSomewhere l Is
at_somewhere l Is place at = record { export = at.one; there = has_at l.main.exports place at.one at.there; named = at.named }

pub unclear_somewhere : (l : Linking) (Is : Naming) → IsUnclear l.names l.main.exports Is → IsSomewhere l Is
unclear_somewhere l Is (inl two) = record { export = two.one; there = has_at l.main.exports two.first two.one two.one_there; named = two.one_named }
unclear_somewhere l Is (inr one) = record { export = one.one; there = has_at l.main.exports one.place one.one one.there; named = one.named }

pub found_somewhere : (l : Linking) (Is : Naming) (found : Option ℕ) → IsFoundAs l.names l.main.exports Is found → is_some found ≡ true → IsSomewhere l Is
found_somewhere l Is None none e = absurd (let f : false ≡ true = e in cc)
found_somewhere l Is (Some place) at e = at_somewhere l Is place at

pub found_nowhere : (l : Linking) (Is : Naming) (found : Option ℕ) → IsFoundAs l.names l.main.exports Is found → is_some found ≡ false → IsMissing l Is
found_nowhere l Is None none e = none
found_nowhere l Is (Some place) at e = absurd (let f : true ≡ false = e in cc)

pub cause_somewhere : (l : Linking) (Is : Naming) (fault : LinkFault) → fault ≡ link_faults.Ambiguous → IsUnclearCause l.names l.main.exports Is fault → IsSomewhere l Is
cause_somewhere l Is fault e (inl (f, unclear)) = unclear_somewhere l Is unclear
cause_somewhere l Is fault e (inr f) = absurd (let g : link_faults.Ambiguous ≡ link_faults.OutOfMemory = sym e ∙ f in cc)

-- ---- other words for a name

module _ (n : Names) (es : List ExportValue) (Is Js : Naming) (to : (name : List ℕ) → Is name → Js name) (back : (name : List ℕ) → Js name → Is name) where
  found_by : (found : Option ℕ) → IsFoundAs n es Is found → IsFoundAs n es Js found
  found_by None none = λ k e at j. none k e at (back e.name j)
  found_by (Some place) at = record { one = at.one; there = at.there; named = to at.one.name at.named; only = λ k e there j. at.only k e there (back e.name j); one_meaning = at.one_meaning }

  unclear_by : (fault : LinkFault) → IsUnclearCause n es Is fault → IsUnclearCause n es Js fault
  unclear_by fault (inl (e, inl two)) = inl (e, inl (record { first = two.first; second = two.second; apart = two.apart; one = two.one; other = two.other; one_there = two.one_there; other_there = two.other_there; one_named = to two.one.name two.one_named; other_named = to two.other.name two.other_named }))
  unclear_by fault (inl (e, inr one)) = inl (e, inr (record { place = one.place; one = one.one; there = one.there; named = to one.one.name one.named; two = one.two }))
  unclear_by fault (inr e) = inr e

  pub if_found_by : (r : Result (Option ℕ) LinkFault) → IfOk r (IsFoundAs n es Is) → IfOk r (IsFoundAs n es Js)
  if_found_by (Ok found) h = found_by found h
  if_found_by (Err fault) h = h

  pub if_unclear_by : (r : Result (Option ℕ) LinkFault) → IfErr r (IsUnclearCause n es Is) → IfErr r (IsUnclearCause n es Js)
  if_unclear_by (Ok found) h = h
  if_unclear_by (Err fault) h = unclear_by fault h

module _ (n : Names) (variant : AbiVariant) (name : List ℕ) (counts : counts_legacy n ≡ true) (is : name ≡ own_realloc_name variant) where
  pub own_from : (text : List ℕ) → text ≡ name → IsOwnReallocName n variant text
  own_from text e = (counts, e ∙ is)

  pub own_back : (text : List ℕ) → IsOwnReallocName n variant text → text ≡ name
  own_back text own = own.1 ∙ sym is

-- ---- places

-- the export at a place
pub export_at : (xs : List Export) (k : ℕ) (d : Export) (e : ExportValue) → slice_get (map export_value xs) k ≡ Some e → d ≡ get_or xs k d → slice_get (map export_value xs) k ≡ Some (export_value d)
export_at xs k d e there is =
    let within : k < length (map export_value xs) = slice_get_within (map export_value xs) k e there in
    let n : length (map export_value xs) ≡ length xs = length-map xs export_value in
    slice_get-map export_value xs k ∙ ap (option_map export_value) (slice_get-get_or xs k d (omega (arith, within, n)) ∙ ap (λ (x : Export). Some x) (sym is))

pub place_within : (xs : List Export) (k : ℕ) (e : ExportValue) → slice_get (map export_value xs) k ≡ Some e → k < length xs
place_within xs k e there =
    let within : k < length (map export_value xs) = slice_get_within (map export_value xs) k e there in
    let n : length (map export_value xs) ≡ length xs = length-map xs export_value in
    omega (arith, within, n)

pub realloc_there : (l : Linking) (variant : AbiVariant) (place : ℕ) → IsReallocAt l variant place → (e : ExportValue) × (slice_get l.main.exports place ≡ Some e)
realloc_there l variant place (inl own) = (own.one, own.there)
realloc_there l variant place (inr general) = (general.1.one, general.1.there)

pub memory_not_missing : (l : Linking) (place : ℕ) → IsMemoryAt l place → IsMissing l (IsMemoryName l.names) → ⊥
memory_not_missing l place m missing = missing place m.is.one m.is.there m.is.named

-- ---- options

pub memory_named : (l : Linking) (place : ℕ) → IsMemoryAt l place → IsMemoryIf l true (option_and_then (name_at l.main.exports) (Some place))
memory_named l place m = (m.export.name, record { place = place; at = m; named = refl }, ap (option_map (λ (e : ExportValue). e.name)) m.there)

pub realloc_named : (l : Linking) (variant : AbiVariant) (place : ℕ) → IsTypedRealloc l variant place → IsReallocIf l variant true (option_and_then (name_at l.main.exports) (Some place))
realloc_named l variant place r =
    (r.export.name, record { place = place; is = r.is; export = r.export; there = r.there; typed = r.typed; named = refl }, ap (option_map (λ (e : ExportValue). e.name)) r.there)

pub encoding_asked : (b : Bool) (e : StringEncoding) → then_some b e ≡ where_asked b (Some e)
encoding_asked true e = refl
encoding_asked false e = refl
