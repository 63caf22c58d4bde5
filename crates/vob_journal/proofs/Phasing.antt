-- The phases of a commit, and how they go together.
use Rattle.std.proofs.Common.{◌≡◌, ◌<◌, ◌+◌, ◌^◌, ℕ, Bool, true, false, List, [], ◌∷◌, ◌++◌, length, refl, sym, ◌∙◌, ap, subst}
use Rattle.std.proofs.Common.{inl, inr}
use Rattle.std.proofs.lemmas.List.{append-nil}
use Rattle.disk_model.specs.Devices.{Device, file_of}
use Rattle.vob_journal.specs.declared.left.Left.TheVariants.{Nothing, Earlier, InFlight}
use Rattle.vob_journal.specs.Calls.{FailsToPut, put_down, settled_first, KeepsFrames, Settles, LeavesLeftover, CommitsFrame}
use Rattle.vob_journal.specs.Calls.{FailsToAppend}
use Rattle.vob_journal.specs.Frames.{frames, frame_after_gate}
use Rattle.vob_journal.specs.Moves.{Stands, Between, Passes, Moves}
use Rattle.vob_journal.specs.Phases.{PutsDown, IsStaged, IsStagedAt, Stages, FailsToStage, OpensGate, MayOpen}
use Rattle.vob_journal.specs.Tails.{IsShut, IsAjar, IsTail, list_at, leftover_at}
use Rattle.vob_journal.specs.Added.{Adds, may_write}
use Rattle.vob_journal.proofs.Adding.{adds_none, adds_then, put_adds, failed_adds}
use Rattle.vob_journal.proofs.Passing.{passes_none, passes_then, passes_weaker, failed_put, put_passes}
use Rattle.vob_journal.proofs.Settling.{shut_image, ajar_image, shut_torn, ajar_torn, shut_closed, staged_put, staged_ajar}
use Rattle.vob_journal.proofs.Settling.{staged_opened}

keeps_shut : (settled : Bool) (tail : ℕ) (d e : Device) → Adds may_write d e
    → Passes d e (Stands (list_at tail d) (leftover_at settled tail d)) → IsShut (list_at tail d) tail (file_of 0 e)
    → KeepsFrames settled true tail d e
keeps_shut settled tail d e adds passes shut = record {
  moves = record {
    passes = passes_weaker d e (Stands (list_at tail d) (leftover_at settled tail d))
        (Between (list_at tail d) (leftover_at settled tail d) (list_at tail e) []) (λ image h. inl h) passes;
    now = λ image i. inl (shut_image (list_at tail d) tail (file_of 0 e) shut image i ∙ sym shut.prefix.lists);
  };
  ends = subst (λ l. IsShut l tail (file_of 0 e)) (sym shut.prefix.lists) shut;
  same_list = shut.prefix.lists;
  adds = adds;
}

keeps_ajar : (settled : Bool) (tail : ℕ) (leftover : List (List ℕ)) (d e : Device) → Adds may_write d e
    → Passes d e (Between (list_at tail d) (leftover_at settled tail d) (list_at tail d) leftover)
    → IsAjar (list_at tail d) leftover tail (file_of 0 e)
    → KeepsFrames settled false tail d e
keeps_ajar settled tail leftover d e adds passes ajar =
    let moves : Moves (list_at tail d) (leftover_at settled tail d) (list_at tail d) leftover d e =
    record { passes = passes; now = ajar_image (list_at tail d) leftover tail (file_of 0 e) ajar } in
    let same = ajar.prefix.lists in
    record {
      moves = subst (λ l. Moves (list_at tail d) (leftover_at settled tail d) l (leftover_at false tail e) d e) (sym same)
          (subst (λ l. Moves (list_at tail d) (leftover_at settled tail d) (list_at tail d) l d e) (sym ajar.behind) moves);
      ends = subst (λ l. IsAjar l (leftover_at false tail e) tail (file_of 0 e)) (sym same)
          (subst (λ l. IsAjar (list_at tail d) l tail (file_of 0 e)) (sym ajar.behind) ajar);
      same_list = same;
      adds = adds;
    }

-- settling, where there is nothing to do
pub settles_none : (tail : ℕ) (d : Device) → IsTail true tail d → Settles true tail d d
settles_none tail d shut = record {
  keeps = keeps_shut true tail d d (adds_none may_write d)
      (passes_none d (Stands (list_at tail d) [])) shut;
  calls = refl;
}

-- settling that succeeded
pub settles_put : (tail : ℕ) (d e : Device) → IsTail false tail d → PutsDown tail (0 ∷ []) d e → Settles false tail d e
settles_put tail d e ajar did =
    let list = list_at tail d in
    let leftover = leftover_at false tail d in
    let passes = put_passes (IsAjar list leftover tail) (Stands list leftover) tail 1 (ajar_image list leftover tail)
    (ajar_torn list leftover tail) d (0 ∷ []) refl ajar in
    let shut = shut_closed list leftover tail (file_of 0 d) ajar in
    subst (Settles false tail d) (sym did) (record {
      keeps = keeps_shut false tail d (put_down tail (0 ∷ []) d)
          (put_adds tail (0 ∷ []) d (put_down tail (0 ∷ []) d) refl) passes shut;
      calls = refl;
    })

-- settling that failed
pub settling_failed : (tail : ℕ) (d e : Device) → IsTail false tail d → FailsToPut tail (0 ∷ []) d e
    → LeavesLeftover false tail d e
settling_failed tail d e ajar did =
    let list = list_at tail d in
    let leftover = leftover_at false tail d in
    let failed = failed_put (IsAjar list leftover tail) (Stands list leftover) tail 1 (ajar_image list leftover tail)
    (ajar_torn list leftover tail) d e (0 ∷ []) refl ajar did in
    record {
      was_unsettled = refl;
      calls = did;
      keeps = keeps_ajar false tail leftover d e (failed_adds tail (0 ∷ []) d e did)
          (passes_weaker d e (Stands list leftover) (Between list leftover list leftover) (λ image h. inl h) failed.0) failed.1;
      same_leftover = failed.1.behind;
    }

-- staging that succeeded
pub stages_put : (tail : ℕ) (payload : List ℕ) (d e : Device) → IsTail true tail d
    → PutsDown (tail + 1) (frame_after_gate payload) d e → Stages tail payload d e
stages_put tail payload d e shut did =
    let list = list_at tail d in
    let passes = put_passes (IsShut list tail) (λ image. frames image ≡ list) (tail + 1) (length (frame_after_gate payload))
    (shut_image list tail)
    (shut_torn list tail (length (frame_after_gate payload))) d (frame_after_gate payload) refl shut in
    subst (Stages tail payload d) (sym did) (record {
      passes = passes;
      staged = staged_put list payload tail (file_of 0 d) shut;
      calls = refl;
    })

-- staging that failed
staging_failed : (tail : ℕ) (payload : List ℕ) (d e : Device) → IsTail true tail d
    → FailsToPut (tail + 1) (frame_after_gate payload) d e → FailsToStage tail payload d e
staging_failed tail payload d e shut did =
    let list = list_at tail d in
    let piece = frame_after_gate payload in
    let size = length piece in
    let failed = failed_put (IsShut list tail) (λ image. frames image ≡ list) (tail + 1) size (shut_image list tail)
    (shut_torn list tail size) d e piece refl shut did in
    record {
      keeps = keeps_shut true tail d e (failed_adds (tail + 1) piece d e did) (passes_weaker d e (λ image. frames image ≡ list)
          (Stands list []) (λ image h. inl h) failed.0) failed.1;
      calls = did;
    }

-- a gate that was opened
pub opens_put : (tail : ℕ) (payload : List ℕ) (d e : Device) → length payload < 2 ^ 32 → IsStagedAt tail payload d
    → PutsDown tail (1 ∷ []) d e → OpensGate tail payload d e
opens_put tail payload d e short staged did =
    let list = list_at tail d in
    let leftover = payload ∷ [] in
    let ajar = staged_ajar list payload tail (file_of 0 d) short staged in
    let passes = put_passes (IsAjar list leftover tail) (Stands list leftover) tail 1 (ajar_image list leftover tail)
    (ajar_torn list leftover tail) d (1 ∷ []) refl ajar in
    subst (OpensGate tail payload d) (sym did) (record {
      passes = passes;
      shut = staged_opened list payload tail (file_of 0 d) short staged;
      calls = refl;
    })

-- a gate that may have been opened
pub opening_failed : (tail : ℕ) (payload : List ℕ) (d e : Device) → length payload < 2 ^ 32 → IsStagedAt tail payload d
    → FailsToPut tail (1 ∷ []) d e → MayOpen tail payload d e
opening_failed tail payload d e short staged did =
    let list = list_at tail d in
    let leftover = payload ∷ [] in
    let ajar = staged_ajar list payload tail (file_of 0 d) short staged in
    let failed = failed_put (IsAjar list leftover tail) (Stands list leftover) tail 1 (ajar_image list leftover tail)
    (ajar_torn list leftover tail) d e (1 ∷ []) refl ajar did in
    record { passes = failed.0; ajar = failed.1; calls = did }

-- where a phase left the tail settled, the next begins so
pub settles_ends : (settled : Bool) (tail : ℕ) (d e : Device) → Settles settled tail d e → IsTail true tail e
settles_ends settled tail d e s = s.keeps.ends

pub stages_ends : (tail : ℕ) (payload : List ℕ) (d e : Device) → Stages tail payload d e → IsStagedAt tail payload e
stages_ends tail payload d e s = subst (λ l. IsStaged l payload tail (file_of 0 e)) (sym s.staged.shut.prefix.lists) s.staged

-- settling failed within a commit
pub fails_settling : (settled : Bool) (tail : ℕ) (payload : List ℕ) (d e : Device) → LeavesLeftover settled tail d e
    → FailsToAppend settled tail payload Earlier d e
fails_settling settled tail payload d e stays = record {
  keeps = subst (λ b. KeepsFrames b false tail d e) (sym stays.was_unsettled) stays.keeps;
  leftover = stays.same_leftover ∙ ap (λ b. leftover_at b tail d) (sym stays.was_unsettled);
  calls = (stays.was_unsettled, stays.calls);
}

module _ (settled : Bool) (tail : ℕ) (payload : List ℕ) (d e : Device) (settles : Settles settled tail d e) where
  -- what stops within the settling leave
  settling : (P : List ℕ → Type 0) → ((image : List ℕ) → Stands (list_at tail d) (leftover_at settled tail d) image → P image)
      → Passes d e P
  settling P f = passes_weaker d e (Between (list_at tail d) (leftover_at settled tail d) (list_at tail e) []) P
      (λ image h. elim h [
        | inl old ↦ f image old
        | inr new ↦ f image (inl (new ∙ append-nil (list_at tail e)
            ∙ settles.keeps.same_list))
      ]) settles.keeps.moves.passes

  -- staging failed within a commit
  pub fails_staging : (f : Device) → FailsToStage tail payload e f → FailsToAppend settled tail payload Nothing d f
  fails_staging f fails =
      let keeps = fails.keeps in
      let P = Stands (list_at tail d) (leftover_at settled tail d) in
      let more : Passes e f P = passes_weaker e f (Between (list_at tail e) [] (list_at tail f) []) P
      (λ image h. elim h [
        | inl old ↦ inl (elim old [
          | inl same ↦ same ∙ settles.keeps.same_list
          | inr same ↦ same ∙ append-nil (list_at tail e)
              ∙ settles.keeps.same_list
        ])
        | inr new ↦ inl (new ∙ append-nil (list_at tail f) ∙ keeps.same_list ∙ settles.keeps.same_list)
      ]) keeps.moves.passes in
      record {
        keeps = keeps_shut settled tail d f (adds_then may_write d e f settles.keeps.adds keeps.adds)
            (passes_then d e f P (settling P (λ image h. h)) more)
            (subst (λ l. IsShut l tail (file_of 0 f)) (keeps.same_list ∙ settles.keeps.same_list) keeps.ends);
        leftover = refl;
        calls = subst (λ s. FailsToPut (tail + 1) (frame_after_gate payload) s f) settles.calls fails.calls;
      }

  -- what stops within the staging leave
  staging : (f : Device) (P : List ℕ → Type 0) → ((image : List ℕ) → Stands (list_at tail d) (leftover_at settled tail d) image
      → P image) → Stages tail payload e f → Passes d f P
  staging f P q stages = passes_then d e f P (settling P q)
      (passes_weaker e f (λ image. frames image ≡ list_at tail e) P (λ image h. q image (inl (h ∙ settles.keeps.same_list)))
      stages.passes)

  staged_list : (f : Device) → Stages tail payload e f → list_at tail f ≡ list_at tail d
  staged_list f stages = stages.staged.shut.prefix.lists ∙ settles.keeps.same_list

  staged_calls : (f : Device) → Stages tail payload e f
      → f ≡ put_down (tail + 1) (frame_after_gate payload) (settled_first settled tail d)
  staged_calls f stages = stages.calls ∙ ap (put_down (tail + 1) (frame_after_gate payload)) settles.calls

  -- opening the gate failed within a commit
  pub fails_opening : (f g : Device) → Stages tail payload e f → MayOpen tail payload f g
      → FailsToAppend settled tail payload InFlight d g
  fails_opening f g stages may =
      let list = list_at tail d in
      let same = staged_list f stages in
      let P = Between list (leftover_at settled tail d) list (payload ∷ []) in
      let more : Passes f g P = passes_weaker f g (Stands (list_at tail f) (payload ∷ [])) P
      (λ image h. elim h [ inl old ↦ inl (inl (old ∙ same)) | inr new ↦ inr (new ∙ ap (λ l. l ++ payload ∷ []) same) ]) may.passes
      in
      let ajar = subst (λ l. IsAjar l (payload ∷ []) tail (file_of 0 g)) same may.ajar in
      record {
        keeps = keeps_ajar settled tail (payload ∷ []) d g
            (adds_then may_write d e g settles.keeps.adds (adds_then may_write e f g
            (put_adds (tail + 1) (frame_after_gate payload) e f stages.calls) (failed_adds tail (1 ∷ []) f g may.calls)))
            (passes_then d f g P (staging f P (λ image h. inl h) stages) more) ajar;
        leftover = ajar.behind;
        calls = subst (λ s. FailsToPut tail (1 ∷ []) s g) (staged_calls f stages) may.calls;
      }

  -- a commit
  pub commits : (f g : Device) → Stages tail payload e f → OpensGate tail payload f g → CommitsFrame settled tail payload d g
  commits f g stages opens =
      let behind = tail + (5 + length payload) in
      let same = staged_list f stages in
      let list : list_at behind g ≡ list_at tail d ++ payload ∷ [] = opens.shut.prefix.lists ∙ ap (λ l. l ++ payload ∷ []) same in
      let P = Between (list_at tail d) (leftover_at settled tail d) (list_at behind g) [] in
      let more : Passes f g P = passes_weaker f g (Stands (list_at tail f) (payload ∷ [])) P
      (λ image h. elim h [
        | inl old ↦ inl (inl (old ∙ same))
        | inr new ↦
            inr (new ∙ sym opens.shut.prefix.lists ∙ sym (append-nil (list_at behind g)))
      ]) opens.passes in
      record {
        moves = record {
          passes = passes_then d f g P (staging f P (λ image h. inl h) stages) more;
          now = λ image i. inl (shut_image (list_at tail f ++ payload ∷ []) behind (file_of 0 g) opens.shut image i
              ∙ sym opens.shut.prefix.lists);
        };
        ends = subst (λ l. IsShut l behind (file_of 0 g)) (sym opens.shut.prefix.lists) opens.shut;
        list = list;
        calls = opens.calls ∙ ap (put_down tail (1 ∷ [])) (staged_calls f stages);
      }

-- the phases by the piece that is written
pub stages_piece : (tail : ℕ) (payload piece : List ℕ) → piece ≡ frame_after_gate payload → (d e : Device) → IsTail true tail d
    → PutsDown (tail + 1) piece d e → Stages tail payload d e
stages_piece tail payload piece is d e shut did = stages_put tail payload d e shut (subst (λ p. PutsDown (tail + 1) p d e) is did)

pub staging_piece_failed : (tail : ℕ) (payload piece : List ℕ) → piece ≡ frame_after_gate payload → (d e : Device)
    → IsTail true tail d → FailsToPut (tail + 1) piece d e → FailsToStage tail payload d e
staging_piece_failed tail payload piece is d e shut did =
    staging_failed tail payload d e shut (subst (λ p. FailsToPut (tail + 1) p d e) is did)
