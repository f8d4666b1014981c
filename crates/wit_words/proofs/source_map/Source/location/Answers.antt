use Rattle.std.proofs.Common.{◌≡◌, ◌++◌, ◌∷◌, ap, subst, refl, ◌∙◌, take, string_bytes, ℕ, List, String, decimal}
use Rattle.std.proofs.lemmas.Result.{IfOk-weaker}
use Rattle.std.specs.declared.alloc.Global.{Global}
use Rattle.wit_words.specs.Sources.{IsLastLine}
use Rattle.wit_words.proofs.source_map.Source.location.Goals as goal

pub returns : goal.returns
returns c =
    let front = c.split_at.ensures.front ∙ ap (take c.args.at) c.as_bytes.ensures.value in
    let path = c.as_str-path.result.now in
    let line = c.line_behind-line.result in
    let column = c.column_behind-column.result in
    IfOk-weaker c.format.result (λ (s : String Global). string_bytes s ≡ path ++ 58 ∷ (decimal line ++ 58 ∷ decimal column)) _
    (λ s is. record {
      last = c.last_line.result.now;
      of_line = subst (λ (f : List ℕ). IsLastLine f c.last_line.result.now) front c.last_line.ensures;
      is = rw (is, c.as_str-path.ensures.value, c.line_behind-line.ensures, front, c.column_behind-column.ensures) refl;
    })
    c.format.ensures.ok
