use Rattle.std.proofs.Common.{inl, sym, ap, ◌∙◌}
use Rattle.std.proofs.lemmas.Result.{err_from_is_err_and}
use Rattle.canonical_options.specs.Passed.flat_types-View.{required_value}
use Rattle.link_table.specs.Options.{asks}
use Rattle.link_table.proofs.lookup.Lookup.check_plain.Goals as goal

pub returns-in_err-options_for-clause-cause : goal.returns-in_err-options_for-clause-cause
returns-in_err-options_for-clause-cause c =
    let moved = err_from_is_err_and c.from_residual.result c.from_residual.ensures.1 in
    rw (moved.1, moved.2)
    (inl (record {
      required = required_value c.required-required.result;
      requires = c.required-required.ensures.is;
      asking = sym c.asks.ensures ∙ c.if-asks.true;
      cause = inl c.in_err-options_for.ensures.cause;
    }))

pub returns-clause-plain : goal.returns-clause-plain
returns-clause-plain c = λ r q. ap asks (c.required-required.ensures.only r q) ∙ sym c.asks.ensures ∙ c.if-asks.false
