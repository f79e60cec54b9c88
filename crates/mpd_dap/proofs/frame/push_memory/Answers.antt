use Rattle.std.proofs.Common.{◌≡◌, ℕ, ◌++◌, codes, refl, rules, ap, sym, ◌∙◌}
use Rattle.std.specs.Fmt.{decimal}
use Rattle.serde_json.proofs.OnLiterals.{serde_json_on_literals}
use Rattle.mpd_dap.specs.Told.{memory_text, event_data}
use Rattle.mpd_dap.proofs.FrameLemmas.{six_parts}
use Rattle.mpd_dap.proofs.frame.push_memory.Goals as goal

-- the text round its number
text_is : (seq : ℕ) → memory_text seq ≡ codes "{\"body\":{\"category\":\"important\",\"output\":\"refused: memory\\n\"},\"event\":\"output\",\"seq\":" ++ (decimal seq ++ codes ",\"type\":\"event\"}")
unfolding memory_text event_data serde_json_on_literals
text_is seq = refl

pub returns-clause-items : goal.returns-clause-items
returns-clause-items c =
    let digits_are : c.as_bytes-digits.result.now ≡ decimal c.args.seq = search rules in
    six_parts c.args.out.now.items _ c.as_bytes-length.result.now _ _ c.as_bytes-digits.result.now _ (memory_text c.args.seq)
    c.push_all.new.out.items c.push_all-2.new.out.items c.push_all-3.new.out.items c.push_all-4.new.out.items c.push_all-5.new.out.items c.push_all-6.new.out.items
    (search rules) c.push_all-2.ensures.items c.push_all-3.ensures.items c.push_all-4.ensures.items c.push_all-5.ensures.items c.push_all-6.ensures.items
    refl (search rules) refl
    (text_is c.args.seq ∙ ap (λ d. codes "{\"body\":{\"category\":\"important\",\"output\":\"refused: memory\\n\"},\"event\":\"output\",\"seq\":" ++ (d ++ codes ",\"type\":\"event\"}")) (sym digits_are))
