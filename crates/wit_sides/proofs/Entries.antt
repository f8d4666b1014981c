-- Entries that are put behind others.
use Rattle.std.proofs.Common.{◌≡◌, false, Bool, List, [], ◌∷◌, ◌++◌, None, Some, Option, sym, refl, ap, ◌∙◌, subst, map, length, ℕ, ◌<◌, Vec}
use Rattle.std.proofs.lemmas.List.{length-map}
use Rattle.std.proofs.lemmas.Option.{slice_get_within}
use Rattle.std.specs.declared.alloc.Global.{Global}
use Rattle.std.specs.Vec.{vec_len}
use Rattle.wit_words.specs.Slice.{Slice}
use Rattle.wit_words.specs.NameKey.{name_key}
use Rattle.wit_words.specs.declared.source_map.Span.{Span}
use Rattle.wit_rules.specs.Repeats.{IsRepeat}
use Rattle.std.specs.Prelude.{is_some, bytes_eq}
use Rattle.std.specs.Map.{lookup}
use Rattle.wit_sides.specs.Sides as spec

pub is_none : {X : Type 0} (o : Option X) → is_some o ≡ false → o ≡ None
is_none None e = refl
is_none (Some x) e = absurd cc

pub put_behind : {K V : Type 0} (eq : K → K → Bool) (es : List (K × V)) (e : K × V) → is_some (lookup (eq e.0) es) ≡ false → es ++ (e.0, e.1) ∷ [] ≡ spec.with_entry eq es e
put_behind eq es e out = rw out refl

-- where a key stands again, there is a place for it
pub within_spans : (es : List spec.Entry) (spans : Vec Span Global) (place : ℕ) → spans.items ≡ map (λ (n : Slice). n.span) (spec.plain_names es)
    → IsRepeat bytes_eq (spec.name_keys (spec.plain_names es)) place → place < vec_len spans
within_spans es spans place e again =
    let names = spec.plain_names es in
    let size : length (spec.name_keys names) ≡ vec_len spans = length-map names (λ (n : Slice). name_key n.text) ∙ sym (length-map names (λ (n : Slice). n.span)) ∙ ap length (sym e) ∙ sym spans.ok.0 in
    subst (λ (n : ℕ). place < n) size (slice_get_within (spec.name_keys names) place again.key again.there)
