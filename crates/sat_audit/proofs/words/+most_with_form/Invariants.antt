use Rattle.sat_audit.proofs.words.+most_with_form.Given as goal

abbrev pub decreases-most_with_form : goal.decreases-most_with_form
decreases-most_with_form l = l.count
