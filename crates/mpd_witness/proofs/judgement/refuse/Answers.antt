use Rattle.std.proofs.Common.{◌≡◌, ◌++◌, List, ℕ, rules, ap, ◌∙◌}
use Rattle.std.specs.Fmt.{decimal}
use Rattle.mpd_explore.specs.Faults.{witness_fault_number, witness_fault_name}
use Rattle.mpd_witness.specs.Verdict.{place_part}
use Rattle.mpd_witness.proofs.VerdictLemmas.{line_joined}
use Rattle.mpd_witness.proofs.judgement.refuse.Goals as goal

pub returns-clause-text : goal.returns-clause-text
returns-clause-text c =
    let number : c.as_bytes.result.now ≡ decimal (witness_fault_number c.args.fault) = search rules in
    let name : c.as_bytes-2.result.now ≡ witness_fault_name c.args.fault = search rules in
    line_joined c.args.line.now.items c.push_all-5.new.out.items c.push_all.new.out.items c.push_all-2.new.out.items c.push_all-3.new.out.items c.push_all-4.new.out.items c.push_place.new.line.items
    (decimal (witness_fault_number c.args.fault)) (witness_fault_name c.args.fault) (place_part c.args.fault)
    (search rules)
    (c.push_all-2.ensures.items ∙ ap (λ (zs : List ℕ). c.push_all.new.out.items ++ zs) number)
    (search rules)
    (c.push_all-4.ensures.items ∙ ap (λ (zs : List ℕ). c.push_all-3.new.out.items ++ zs) name)
    c.push_place.ensures.text
    (search rules)
