use Rattle.std.proofs.Common.{◌≡◌, ◌++◌, ◌+◌, ◌/◌, length, map, IfOk, string_bytes, take, refl, ap, ◌∙◌, subst}
use Rattle.std.proofs.lemmas.List.{take-append-drop}
use Rattle.mpd_explore.specs.Printed.{lines_told}
use Rattle.mpd_pool.proofs.Lines.{lines_joined}
use Rattle.mpd_pool.proofs.print.+fn-lines-join+arg2+fn-lines-join+arg3+lines.Goals as goal

pub returns : goal.returns
returns g t c =
    lines_joined c.joined.result string_bytes (map string_bytes c.args.texts.now) c.args.first _ c.args.leaves.now c.split_at.result.0.now c.split_at.result.1.now (string_bytes c.in_ok-a.field-0) c.as_str.result.now
    (ap (λ xs. xs ++ c.split_at.result.1.now) c.split_at.ensures.front ∙ ap (λ ys. take (length c.args.leaves.now / 2) c.args.leaves.now ++ ys) c.split_at.ensures.back ∙ take-append-drop (length c.args.leaves.now / 2) c.args.leaves.now)
    refl
    (subst (λ r. IfOk r (λ s. string_bytes s ≡ lines_told (map string_bytes c.args.texts.now) c.args.first c.split_at.result.0.now)) c.in_ok-a.was c.join-a.ensures.first)
    (c.as_str.ensures.value ∙ subst (λ r. IfOk r (λ s. string_bytes s ≡ lines_told (map string_bytes c.args.texts.now) (c.args.first + length c.split_at.result.0.now) c.split_at.result.1.now)) c.in_ok-back.was c.join-a.ensures.second)
    c.joined.ensures
