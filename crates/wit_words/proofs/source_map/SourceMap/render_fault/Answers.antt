use Rattle.std.proofs.Common.{string_bytes, String}
use Rattle.std.proofs.lemmas.Result.{IfOk-weaker}
use Rattle.std.specs.declared.alloc.Global.{Global}
use Rattle.wit_words.specs.Sources.{IsLineAt, IsFaultLine}
use Rattle.wit_words.proofs.Sources.{placeless, in_any_case}
use Rattle.wit_words.proofs.source_map.SourceMap.render_fault.Goals as goal

pub returns-in_ok-what-in-Broken : goal.returns-in_ok-what-in-Broken
returns-in_ok-what-in-Broken c =
    rw (c.in-Broken.is) (IfOk-weaker c.render_at.result (λ (s : String Global). IsLineAt c.args.self.now c.in-Broken.span c.as_str.result.now (string_bytes s)) _ (λ s is. record { what = c.as_str.result.now; is = is }) c.render_at.ensures)

pub returns-in_default : goal.returns-in_default
returns-in_default c = in_any_case c.to_string-in_default.result (λ (s : String Global). IsFaultLine c.args.self.now c.args.fault.now (string_bytes s)) (λ s. placeless c.args.self.now c.args.fault.now c.in_default.not-Broken (string_bytes s))
