-- Texts that are made and written in turn.
use Rattle.std.proofs.Common.{◌≡◌, ℕ, List, [], ◌∷◌, ◌++◌, map, Option, ◌⊎◌, inl, inr, refl, sym, ap, ◌∙◌, subst, append_assoc, append-nil, Vec, Global, true}
use Rattle.std.proofs.lemmas.List.{map-append}
use Rattle.scope_outside.specs.State.{Files, StoreState}
use Rattle.scope_outside.specs.Answers.{IsFault, IsOpenAt, with_file}
use Rattle.row_codec.specs.Texts.{rows_text}
use Rattle.logical_dag.specs.declared.dag.Output.{Output}
use Rattle.logical_trees.specs.Rows.{Row}
use Rattle.scope_streams.specs.declared.stops.WriteStop.TheVariants as write
use Rattle.scope_streams.specs.Ends.{WriteEnds, bags_of, named_texts, texts_of, with_files}
use Rattle.scope_streams.specs.Turns.{texts_at, AreWritten}

-- ---- texts

abbrev pub bytes_of : List (Vec ℕ Global) → List (List ℕ)
bytes_of = map (λ v. v.items)

pub texts_more : (texts : List (Vec ℕ Global)) (t : Vec ℕ Global) (o : Output) (v : Vec Row Global) (os us : List Output) (vs ws : List (Vec Row Global)) (all : List (List ℕ))
    → os ≡ o ∷ us → vs ≡ v ∷ ws → t.items ≡ rows_text o.delimiter v.items → bytes_of texts ++ texts_at os vs ≡ all → bytes_of (texts ++ t ∷ []) ++ texts_at us ws ≡ all
texts_more texts t o v os us vs ws all e f is h =
    let now : bytes_of texts ++ (rows_text o.delimiter v.items ∷ texts_at us ws) ≡ all = rw (e, f) at h in
    ap (λ (l : List (List ℕ)). l ++ texts_at us ws) (map-append (λ (x : Vec ℕ Global). x.items) texts (t ∷ []))
    ∙ (append_assoc (bytes_of texts) (t.items ∷ []) (texts_at us ws) ∙ (ap (λ (x : List ℕ). bytes_of texts ++ x ∷ texts_at us ws) is ∙ now))

no_texts : (os : List Output) (vs : List (Vec Row Global)) → (os ≡ []) ⊎ (vs ≡ []) → texts_at os vs ≡ []
no_texts [] vs e = refl
no_texts (o ∷ os) [] e = refl
no_texts (o ∷ os) (v ∷ vs) (inl e) = absurd (cc)
no_texts (o ∷ os) (v ∷ vs) (inr e) = absurd (cc)

named : (os : List Output) (vs : List (Vec Row Global)) (texts : List (Vec ℕ Global)) → bytes_of texts ≡ texts_at os vs
    → named_texts os texts ≡ texts_of (map (λ o. o.name) os) (map (λ o. o.delimiter) os) (bags_of vs)
named [] vs texts e = refl
named (o ∷ os) [] [] e = refl
named (o ∷ os) [] (t ∷ texts) e = absurd (cc)
named (o ∷ os) (v ∷ vs) [] e = absurd (cc)
named (o ∷ os) (v ∷ vs) (t ∷ texts) e =
    let first : t.items ≡ rows_text o.delimiter v.items = cc in
    let rest : bytes_of texts ≡ texts_at os vs = cc in
    rw (first, named os vs texts rest) refl

pub texts_end : (texts : List (Vec ℕ Global)) (outputs us : List Output) (rows ws : List (Vec Row Global)) → (us ≡ []) ⊎ (ws ≡ [])
    → bytes_of texts ++ texts_at us ws ≡ texts_at outputs rows → named_texts outputs texts ≡ texts_of (map (λ o. o.name) outputs) (map (λ o. o.delimiter) outputs) (bags_of rows)
texts_end texts outputs us rows ws e h =
    named outputs rows texts (sym (append-nil (bytes_of texts)) ∙ (ap (λ (l : List (List ℕ)). bytes_of texts ++ l) (sym (no_texts us ws e)) ∙ h))

-- ---- writing

with_one : (files : Option Files) (front : List (List ℕ × List ℕ)) (name text : List ℕ) → with_files files (front ++ (name, text) ∷ []) ≡ with_file (with_files files front) name text
with_one files [] name text = refl
with_one files (t ∷ front) name text = with_one (with_file files t.0 t.1) front name text

pub named_next : (o : Output) (t : Vec ℕ Global) (os us : List Output) (ts ws : List (Vec ℕ Global)) → os ≡ o ∷ us → ts ≡ t ∷ ws → named_texts os ts ≡ (o.name, t.items) ∷ named_texts us ws
named_next o t os us ts ws e f = rw (e, f) refl

pub named_end : (os : List Output) (ts : List (Vec ℕ Global)) → (os ≡ []) ⊎ (ts ≡ []) → named_texts os ts ≡ []
named_end [] ts e = refl
named_end (o ∷ os) [] e = refl
named_end (o ∷ os) (t ∷ ts) (inl e) = absurd (cc)
named_end (o ∷ os) (t ∷ ts) (inr e) = absurd (cc)

pub none_written : (texts : List (List ℕ × List ℕ)) (old : StoreState) → AreWritten texts texts old old
none_written texts old = record { done = []; cut = refl; is = refl }

module _ (texts left : List (List ℕ × List ℕ)) (name text : List ℕ) (held : List (List ℕ × List ℕ)) (old now new : StoreState) (next : held ≡ (name, text) ∷ left) (h : AreWritten texts held old now) where
  pub written_more : new ≡ record now { files = with_file now.files name text } → AreWritten texts left old new
  written_more is = record {
    done = h.done ++ (name, text) ∷ [];
    cut = h.cut ∙ (ap (λ (l : List (List ℕ × List ℕ)). h.done ++ l) next ∙ sym (append_assoc h.done ((name, text) ∷ []) left));
    is =
        is
        ∙ (ap (λ (s : StoreState). record s { files = with_file s.files name text }) h.is ∙ ap (λ (f : Option Files). record old { files = f }) (sym (with_one old.files h.done name text)));
  }

  pub write_failed : IsFault name true now new → IsOpenAt name now.files new.files → WriteEnds texts old new (write.Failed name)
  write_failed fault others =
      let f = subst (λ (s : StoreState). IsFault name true s new) h.is fault in (
        h.done,
        text,
        left,
        h.cut ∙ ap (λ (l : List (List ℕ × List ℕ)). h.done ++ l) next,
        record { rose = f.rose; never_falls = f.never_falls; misses = f.misses; last = f.last },
        subst (λ (s : StoreState). IsOpenAt name s.files new.files) h.is others,
      )

pub write_short : (texts left : List (List ℕ × List ℕ)) (old now new : StoreState) → AreWritten texts left old now → new ≡ now → WriteEnds texts old new write.NoMemory
write_short texts left old now new h same = (h.done, left, h.cut, same ∙ h.is)

pub all_written : (texts left : List (List ℕ × List ℕ)) (old now : StoreState) → left ≡ [] → AreWritten texts left old now → now ≡ record old { files = with_files old.files texts }
all_written texts left old now none h =
    let all : texts ≡ h.done = h.cut ∙ (ap (λ (l : List (List ℕ × List ℕ)). h.done ++ l) none ∙ append-nil h.done) in
    h.is ∙ ap (λ (l : List (List ℕ × List ℕ)). record old { files = with_files old.files l }) (sym all)
