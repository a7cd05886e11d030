-- A call that adds rows one after the other: what it has added so far, and what is left to add.
use Rattle.std.specs.Prelude.{◌≡◌, List, [], ◌++◌, length, take, drop}
use Rattle.std.proofs.Common.{refl, sym, ◌∙◌, ap, append_assoc, append-nil}
use Rattle.std.proofs.Math.Seq.{take-append_seam}
use Rattle.std.proofs.lemmas.List.{take-append-drop}
use Rattle.user_ops.specs.Appends.{AddsSome}

-- of all these, the ones before `left` were added to `old`, which makes `now`
pub record IsAdding {A : Type 0} (old now left all : List A) : Type 0 where
  pub done : List A
  pub added : now ≡ old ++ done
  pub others : done ++ left ≡ all

module _ {A : Type 0} where
  pub IsAdding-start : (old all : List A) → IsAdding old old all all
  IsAdding-start old all = record { done = []; added = sym (append-nil old); others = refl }

  pub IsAdding-more : (old now next left all piece : List A) → IsAdding old now (piece ++ left) all → next ≡ now ++ piece → IsAdding old next left all
  IsAdding-more old now next left all piece h is = record {
    done = h.done ++ piece;
    added = is ∙ ap (λ (l : List A). l ++ piece) h.added ∙ append_assoc old h.done piece;
    others = append_assoc h.done piece left ∙ h.others;
  }

  pub IsAdding-left : (old now left rest all : List A) → IsAdding old now left all → left ≡ rest → IsAdding old now rest all
  IsAdding-left old now left rest all h is = record {
    done = h.done;
    added = h.added;
    others = ap (λ (l : List A). h.done ++ l) (sym is) ∙ h.others;
  }

  -- at a failure
  pub AddsSome-from_adding : (old now left all : List A) → IsAdding old now left all → AddsSome old now all
  AddsSome-from_adding old now left all h =
      (length h.done, h.added ∙ ap (λ (l : List A). old ++ l) (sym (take-append_seam h.done left) ∙ ap (take (length h.done)) h.others))

  -- at a failure within a piece
  pub AddsSome-from_part : (old now next left all piece : List A) → IsAdding old now (piece ++ left) all → AddsSome now next piece → AddsSome old next all
  AddsSome-from_part old now next left all piece h part =
      AddsSome-from_adding old next (drop part.0 piece ++ left) all
      (IsAdding-more old now next (drop part.0 piece ++ left) all (take part.0 piece)
      (IsAdding-left old now (piece ++ left) (take part.0 piece ++ (drop part.0 piece ++ left)) all h
      (ap (λ (l : List A). l ++ left) (sym (take-append-drop part.0 piece)) ∙ append_assoc (take part.0 piece) (drop part.0 piece) left))
      part.1)

  -- at the end
  pub adding-whole : (old now all : List A) → IsAdding old now [] all → now ≡ old ++ all
  adding-whole old now all h = h.added ∙ ap (λ (l : List A). old ++ l) (sym (append-nil h.done) ∙ h.others)
