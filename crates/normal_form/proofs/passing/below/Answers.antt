use Rattle.normal_form.proofs.passing.below.Goals as goal

pub returns-in-Project : goal.returns-in-Project
returns-in-Project c = rw c.in-Project.is (rw c.as_slice.ensures at c.with_items-moved.ensures)
