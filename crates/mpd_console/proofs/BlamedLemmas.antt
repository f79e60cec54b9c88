-- What is told of the step that decided, put together from its parts.
use Rattle.std.proofs.Common.{◌≡◌, ℕ, Option, Some, None, ap, sym, ◌∙◌, subst}
use Rattle.std.specs.Prelude.{option_map, IfSome}
use Rattle.mpd_session.specs.Held.{Held}
use Rattle.mpd_session.specs.Respond.{respond}
use Rattle.mpd_session.specs.declared.request.Command.{Command}
use Rattle.mpd_vocabulary.specs.declared.word.Word.TheVariants as word
use Rattle.mpd_blame.specs.declared.back.Blame.{Blame}
use Rattle.mpd_blame.specs.declared.back.Blame.TheVariants as blame_is
use Rattle.mpd_blame.specs.declared.back.Decided.{Decided}
use Rattle.mpd_blame.specs.declared.told.PlacedBlame.{PlacedBlame}
use Rattle.mpd_console.specs.declared.told.Carried.{Carried}
use Rattle.mpd_console.specs.declared.told.Told.{Told}
use Rattle.mpd_console.specs.Moves.{goto_command}
use Rattle.mpd_console.specs.Blamed.{IsBlamed}
use Rattle.mpd_console.specs.Says.{asking, carried_of, blamed_by, BlamedAs, BlamedBy}

-- it was gone to by this command, which is that of `goto`
gone_by : (s t : Held) (b : PlacedBlame) (d : Decided) (n : Option ℕ) (o : Option Carried) → t ≡ (respond s (asking (goto_command s.trail d.depth))).1 → IfSome o (λ k. k ≡ carried_of s (word.Goto d.depth) (goto_command s.trail d.depth) t)
    → BlamedAs s b n (blame_is.At d) (option_map (blamed_by b n) o) t
gone_by s t b d n None e h = (e, tt)
gone_by s t b d n (Some k) e h = (e, ap (blamed_by b n) h)

pub gone_to : (s t : Held) (b : PlacedBlame) (d : Decided) (c : Command) (n : Option ℕ) (o : Option Carried) (p : Option Told) → c ≡ goto_command s.trail d.depth → t ≡ (respond s (asking c)).1 → IfSome o (λ k. k ≡ carried_of s (word.Goto d.depth) c t)
    → p ≡ option_map (blamed_by b n) o → BlamedAs s b n (blame_is.At d) p t
gone_to s t b d c n o p is e h told =
    subst (λ y. BlamedAs s b n (blame_is.At d) y t) (sym told)
    (gone_by s t b d n o (e ∙ ap (λ y. (respond s (asking y)).1) is) (subst (λ y. IfSome o (λ k. k ≡ carried_of s (word.Goto d.depth) y t)) is h))

pub blamed_so : (s t : Held) (b : PlacedBlame) (c : Blame) (n : Option ℕ) (p : Option Told) → IsBlamed s.trail b n → b.blame ≡ c → BlamedAs s b n c p t → BlamedBy s p t
blamed_so s t b c n p is same h = (b, n, is, subst (λ x. BlamedAs s b n x p t) (sym same) h)

pub ruleset blaming = (blamed_so, gone_to)
