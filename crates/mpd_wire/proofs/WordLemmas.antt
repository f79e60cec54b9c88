-- A text, and a line, is that of a reply with words that it may have.
use Rattle.std.proofs.Common.{◌≡◌, ℕ, List, [], ◌∷◌, ◌++◌, ap, ◌∙◌}
use Rattle.mpd_session.specs.declared.reply.Reply.{Reply}
use Rattle.mpd_wire.specs.Words.{HasWords}
use Rattle.mpd_wire.specs.Replies.{reply_text, IsReplyText, IsReplyLine}

pub worded : (r : Reply) (words : List (List ℕ)) (text : List ℕ) → HasWords r words → text ≡ reply_text words r → IsReplyText r text
worded r words text h is = (words, h, is)

pub ruleset wording = (worded)

pub lined : (r : Reply) (text told : List ℕ) → IsReplyText r text → told ≡ text ++ 10 ∷ [] → IsReplyLine r told
lined r text told (words, h, is) said = (words, h, said ∙ ap (λ (t : List ℕ). t ++ 10 ∷ []) is)

pub ruleset lining = (lined)
