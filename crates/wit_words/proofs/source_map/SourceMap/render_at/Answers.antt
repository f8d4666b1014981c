use Rattle.std.proofs.Common.{◌≡◌, refl, ◌++◌, ◌∷◌, string_bytes, String}
use Rattle.std.proofs.lemmas.Result.{IfOk-weaker}
use Rattle.std.specs.declared.alloc.Global.{Global}
use Rattle.wit_words.proofs.source_map.SourceMap.render_at.Goals as goal

pub returns : goal.returns
returns c =
    let place = string_bytes c.in_ok-place.place in
    IfOk-weaker c.format.result (λ (s : String Global). string_bytes s ≡ c.as_str-place.result.now ++ 58 ∷ (32 ∷ c.args.what.now)) _
    (λ s is. record {
      place = place;
      of_place = c.in_ok-place.ensures;
      is = rw (is, c.as_str-place.ensures.value) refl;
    })
    c.format.ensures.ok
