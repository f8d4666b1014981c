use Rattle.std.proofs.Common.{◌≡◌, ◌+◌, ◌∷◌, [], ◌∙◌, sym, subst, ap, arith, length, length-append}
use Rattle.wit_types.specs.Passed.wit_order-Places.{row, Rows}
use Rattle.wit_types.proofs.Passed.wit_order-Lists.{row_more}
use Rattle.wit_reach.proofs.needed.no_types.Goals as goal

pub loop-interface-preserved : goal.loop-interface-preserved
loop-interface-preserved c =
    let e = c.in_ok-push.ensures.items in
    let was : Rows = c.loop-interface.of.items in
    let grown : length c.push.new.self.items ≡ length was + 1 = ap (λ (t : Rows). length t) e ∙ length-append was (c.new.result ∷ []) in
    record {
      size = omega (arith, grown, c.loop-interface.invariant.size);
      empty = λ j. subst (λ (t : Rows). row t j ≡ []) (sym e) (row_more was c.new.result j c.new.ensures.items c.loop-interface.invariant.empty);
    }
