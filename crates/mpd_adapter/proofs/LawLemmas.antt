-- What the laws of the adapter say, from its definitions.
use Rattle.std.proofs.Common.{◌≡◌, ℕ, List, [], Bool, true, false, Result, Ok, Err, Option, Some, None, refl, ap, sym, ◌∙◌, subst, inl, inr}
use Rattle.serde_json.specs.Data.{Data}
use Rattle.mpd_console.specs.Says.{Console}
use Rattle.mpd_dap.specs.declared.ask.Message.{Message}
use Rattle.mpd_dap.specs.declared.name.Refusal.{Refusal}
use Rattle.mpd_dap.specs.Told.{response_text, refusal_text}
use Rattle.mpd_dap.specs.Messages.{message_in}
use Rattle.mpd_adapter.specs.declared.moves.Move.{Move}
use Rattle.mpd_adapter.specs.declared.task.Task.{Task}
use Rattle.mpd_adapter.specs.declared.task.Task.TheVariants.{Refused, Looks, Launches, Begins, Ends, Marks, Moves, Types, Values}
use Rattle.mpd_adapter.specs.Answers.{Answer, frames_of, number_after}
use Rattle.mpd_adapter.specs.Laws.{IsHeaded, IsAnswered, IsQuiet, StopsLast, SaysNothing}
use Rattle.mpd_adapter.specs.Says.{Adapter, Spoken, Shows, Told, Kept, Heeds, SaysBy, Says, task_in, changes_none, path_then, over_then, answer_of, memory_frames, next_number}

-- what is so of the message that a body is
heeded : (d : Adapter) (body : List ℕ) (m : Message) (frames : List (List ℕ)) (e : Adapter) → message_in body ≡ Some m → Says d body frames e → Heeds d (task_in d m) m frames e
heeded d body m frames e is says = subst (λ o. SaysBy d o frames e) is says

-- ---- one response

headed : (n : ℕ) (m : Message) (r : Result Answer Refusal) → IsHeaded n m (frames_of n m r)
headed n m (Ok a) = (response_text n m.seq m.name a.0, a.1, refl, inl (a.0, refl))
headed n m (Err why) = (refusal_text n m.seq m.name why, [], refl, inr (why, refl))

answered_by : (d : Adapter) (t : Task) (m : Message) (frames : List (List ℕ)) (e : Adapter) → Heeds d t m frames e → IsAnswered d m frames e
answered_by d t m frames e (inl (said, shown, spoken, shows, is, number, path, over)) = (inl (subst (IsHeaded d.number m) (sym is) (headed d.number m (answer_of d t m said shown e.console))), number)
answered_by d t m frames e (inr ((is, same), kept)) = (inr is, ap (λ (x : Adapter). x.number) same ∙ sym (ap (number_after d.number) is))

pub answered : (d : Adapter) (body : List ℕ) (m : Message) (frames : List (List ℕ)) (e : Adapter) → message_in body ≡ Some m → Says d body frames e → IsAnswered d m frames e
answered d body m frames e is says = answered_by d (task_in d m) m frames e (heeded d body m frames e is says)

-- ---- what changes nothing

unspoken : (d : Adapter) (t : Task) (m : Message) (said : List ℕ) (e : Console) → changes_none t ≡ true → Spoken d t m said e → e ≡ d.console
unspoken d (Refused r) m said e h same = same
unspoken d (Looks l) m said e h same = same
unspoken d Launches m said e h same = same
unspoken d Begins m said e h same = same
unspoken d Ends m said e h same = same
unspoken d Marks m said e h same = let n : false ≡ true = h in cc
unspoken d (Moves x) m said e h same = let n : false ≡ true = h in cc
unspoken d Types m said e h same = let n : false ≡ true = h in cc
unspoken d (Values p) m said e h same = same

same_path : (path : Option (List ℕ)) (t : Task) (m : Message) → changes_none t ≡ true → path_then path t m.ask ≡ path
same_path path (Refused r) m h = refl
same_path path (Looks l) m h = refl
same_path path Launches m h = let n : false ≡ true = h in cc
same_path path Begins m h = refl
same_path path Ends m h = refl
same_path path Marks m h = refl
same_path path (Moves x) m h = refl
same_path path Types m h = refl
same_path path (Values p) m h = refl

same_over : (over : Bool) (t : Task) → changes_none t ≡ true → over_then over t ≡ over
same_over over (Refused r) h = refl
same_over over (Looks l) h = refl
same_over over Launches h = refl
same_over over Begins h = refl
same_over over Ends h = let n : false ≡ true = h in cc
same_over over Marks h = refl
same_over over (Moves x) h = refl
same_over over Types h = refl
same_over over (Values p) h = refl

kept_still : (d : Adapter) (t : Task) (m : Message) (e : Console) → changes_none t ≡ true → Kept d t m e → e ≡ d.console
kept_still d t m e h (inl same) = same
kept_still d t m e h (inr (said, spoken)) = unspoken d t m said e h spoken

quiet_by : (d : Adapter) (t : Task) (m : Message) (frames : List (List ℕ)) (e : Adapter) → changes_none t ≡ true → Heeds d t m frames e → IsQuiet d e
quiet_by d t m frames e h (inl (said, shown, spoken, shows, is, number, path, over)) = (unspoken d t m said e.console h spoken, path ∙ same_path d.path t m h, over ∙ same_over d.is_over t h)
quiet_by d t m frames e h (inr ((is, same), kept)) = (kept_still d t m e.console h kept, ap (λ (x : Adapter). x.path) same, ap (λ (x : Adapter). x.is_over) same)

pub quiet : (d : Adapter) (body : List ℕ) (m : Message) (frames : List (List ℕ)) (e : Adapter) → message_in body ≡ Some m → changes_none (task_in d m) ≡ true → Says d body frames e → IsQuiet d e
quiet d body m frames e is none says = quiet_by d (task_in d m) m frames e none (heeded d body m frames e is says)

-- ---- moves

stops_by : (d : Adapter) (asked : Move) (m : Message) (frames : List (List ℕ)) (e : Adapter) → Heeds d (Moves asked) m frames e → StopsLast d m asked frames e
stops_by d asked m frames e (inl (said, shown, spoken, shows, is, number, path, over)) = inl (said, is)
stops_by d asked m frames e (inr ((is, same), kept)) = inr is

pub stops : (d : Adapter) (body : List ℕ) (m : Message) (asked : Move) (frames : List (List ℕ)) (e : Adapter) → message_in body ≡ Some m → task_in d m ≡ Moves asked → Says d body frames e → StopsLast d m asked frames e
stops d body m asked frames e is moves says = stops_by d asked m frames e (subst (λ t. Heeds d t m frames e) moves (heeded d body m frames e is says))

-- ---- what is no message

pub passed : (d : Adapter) (body : List ℕ) (frames : List (List ℕ)) (e : Adapter) → message_in body ≡ None → Says d body frames e → SaysNothing d frames e
passed d body frames e none says = subst (λ o. SaysBy d o frames e) none says
