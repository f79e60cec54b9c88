-- A frame that is written is read again.
use Rattle.std.proofs.Common.{◌≡◌, ℕ, List, ◌++◌, length, codes, ap, sym, ◌∙◌, append_assoc}
use Rattle.std.specs.Fmt.{decimal}
use Rattle.mpd_frames.specs.Header.{BREAK}
use Rattle.mpd_frames.specs.Frame.{frame_text}

-- the four parts that are pushed, and the frame
pub four_parts : (old name digits breaks body one two three four : List ℕ) → one ≡ old ++ name → two ≡ one ++ digits → three ≡ two ++ breaks → four ≡ three ++ body
    → name ≡ codes "Content-Length: " → digits ≡ decimal (length body) → breaks ≡ BREAK ++ BREAK → four ≡ old ++ frame_text body
four_parts old name digits breaks body one two three four a b c d is_name is_digits is_breaks =
    let text : ((name ++ digits) ++ breaks) ++ body ≡ frame_text body =
    ap (λ x. ((x ++ digits) ++ breaks) ++ body) is_name ∙ ap (λ x. ((codes "Content-Length: " ++ x) ++ breaks) ++ body) is_digits
    ∙ ap (λ x. ((codes "Content-Length: " ++ decimal (length body)) ++ x) ++ body) is_breaks ∙ ap (λ x. x ++ body) (sym (append_assoc (codes "Content-Length: " ++ decimal (length body)) BREAK BREAK)) in
    d ∙ ap (λ x. x ++ body) (c ∙ ap (λ x. x ++ breaks) (b ∙ ap (λ x. x ++ digits) a))
    ∙ ap (λ x. (x ++ breaks) ++ body) (append_assoc old name digits) ∙ ap (λ x. x ++ body) (append_assoc old (name ++ digits) breaks) ∙ append_assoc old ((name ++ digits) ++ breaks) body
    ∙ ap (λ x. old ++ x) text
