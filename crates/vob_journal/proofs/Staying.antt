-- Calls that leave both files as they were.
use Rattle.std.proofs.Common.{ℕ, Option, Some, None, refl, sym, ◌∙◌, subst, inl, inr}
use Rattle.disk_model.specs.Files.{IsImage}
use Rattle.disk_model.specs.Devices.{Device, Fetched, Failed, Measures, Fetches, Idles, LeavesNow}
use Rattle.disk_model.specs.DiskStates.{Both}
use Rattle.vob_journal.specs.Reads.{Rests, SameFiles}
use Rattle.vob_journal.specs.Added.{Adds, may_read}
use Rattle.vob_journal.proofs.Adding.{adds_none, adds_one, adds_then}
use Rattle.vob_journal.proofs.Passing.{passes_none, passes_call, passes_then, passes_weaker}
use Rattle.vob_journal.proofs.Telling.{both_map, both_then}

pub files_stay : (d : Device) → SameFiles d d
files_stay d = record { journal = refl; objects = refl }

pub files_then : (d e f : Device) → SameFiles d e → SameFiles e f → SameFiles d f
files_then d e f one two = record { journal = two.journal ∙ one.journal; objects = two.objects ∙ one.objects }

measured_files : (d e : Device) → Measures 0 d e → SameFiles d e
measured_files d e is = subst (SameFiles d) (sym is) (record { journal = refl; objects = refl })

idle_files : (d e : Device) → Idles d e → SameFiles d e
idle_files d e (inl same) = subst (SameFiles d) (sym same) (files_stay d)
idle_files d e (inr missed) = subst (SameFiles d) (sym missed) (record { journal = refl; objects = refl })

rests_files : (d e : Device) → Rests d e → SameFiles d e
rests_files d e rests = record { journal = rests.same; objects = rests.passes.objects }

pub fetched_rests : (place size : ℕ) (d e : Device) → Fetches 0 place size d e → Rests d e
fetched_rests place size d e made = subst (Rests d) (sym made) (record {
  adds = adds_one may_read (Fetched 0 place size) d refl;
  same = refl;
  passes = passes_call (Fetched 0 place size) d (LeavesNow 0 d) (λ image left. left) (λ image left. left) refl;
})

pub idle_rests : (d e : Device) → Idles d e → Rests d e
idle_rests d e (inl same) = subst (Rests d) (sym same) (record {
  adds = adds_none may_read d;
  same = refl;
  passes = passes_none d (LeavesNow 0 d);
})
idle_rests d e (inr missed) = subst (Rests d) (sym missed) (record {
  adds = adds_one may_read Failed d refl;
  same = refl;
  passes = passes_call Failed d (LeavesNow 0 d) (λ image left. left) (λ image left. left) refl;
})

pub rests_then : (d e f : Device) → Rests d e → Rests e f → Rests d f
rests_then d e f one two = record {
  adds = adds_then may_read d e f one.adds two.adds;
  same = two.same ∙ one.same;
  passes = passes_then d e f (LeavesNow 0 d) one.passes
      (passes_weaker e f (LeavesNow 0 e) (LeavesNow 0 d) (λ image left. subst (λ s. IsImage s image) one.same left) two.passes);
}

-- the same of what is told before and after
pub modeled_stay : (modeled : Option Device) → Both SameFiles modeled modeled
modeled_stay None = tt
modeled_stay (Some d) = files_stay d

pub modeled_then : (old mid new : Option Device) → Both SameFiles old mid → Both SameFiles mid new → Both SameFiles old new
modeled_then old mid new one two = both_then SameFiles SameFiles SameFiles old mid new files_then one two

pub modeled_measured : (old new : Option Device) → Both (Measures 0) old new → Both SameFiles old new
modeled_measured old new is = both_map (Measures 0) SameFiles old new measured_files is

pub modeled_idle : (old new : Option Device) → Both Idles old new → Both SameFiles old new
modeled_idle old new idles = both_map Idles SameFiles old new idle_files idles

pub modeled_rests : (old new : Option Device) → Both Rests old new → Both SameFiles old new
modeled_rests old new rests = both_map Rests SameFiles old new rests_files rests

pub modeled_rest_on : (old mid new : Option Device) → Both Rests old mid → Both Rests mid new → Both Rests old new
modeled_rest_on old mid new one two = both_then Rests Rests Rests old mid new rests_then one two

-- which calls were added, where they are those that read
pub modeled_adds : (old new : Option Device) → Both Rests old new → Both (Adds may_read) old new
modeled_adds old new rests = both_map Rests (Adds may_read) old new (λ d e rests. rests.adds) rests

pub modeled_adds_none : (modeled : Option Device) → Both (Adds may_read) modeled modeled
modeled_adds_none None = tt
modeled_adds_none (Some d) = adds_none may_read d
