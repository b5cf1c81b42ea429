use Rattle.std.proofs.Common.{◌≡◌, map, length, get_or, ap, sym, ◌∙◌, arith}
use Rattle.std.proofs.Math.ListN.{get_or-map}
use Rattle.std.proofs.lemmas.List.{length-map}
use Rattle.snapshot.proofs.Zeros.{zero_reading}
use Rattle.snapshot.specs.declared.account.ChainReading.{ChainReading}
use Rattle.engine_model.specs.declared.records.LegReading.{LegReading}
use Rattle.engine.specs.Chains.{chain_of}
use Rattle.engine.proofs.CommitLemmas.{filled_more}
use Rattle.engine.proofs.chain.Chain.fill.Goals as goal

pub loop-position-preserved : goal.loop-position-preserved
loop-position-preserved c =
    let readings = (chain_of c.args.self.now).readings in
    let made : LegReading → ChainReading = λ r. r.made in
    let none : LegReading = record { leg = 0; made = zero_reading } in
    let i = c.loop-position.position in
    let same = c.as_slice-readings.ensures.value in
    let lengths : length (map made readings) ≡ length c.as_slice-readings.result.now =
    length-map readings made ∙ ap length (sym same) in
    let entry : made (get_or c.as_slice-readings.result.now i none) ≡ get_or (map made readings) i zero_reading =
    ap (λ rs. made (get_or rs i none)) same ∙ sym (get_or-map made readings i none) in
    filled_more (map made readings) c.args.list.now c.loop-position.list i _ zero_reading (omega arith)
    (omega (arith, lengths, length-map readings made)) c.loop-position.invariant entry
