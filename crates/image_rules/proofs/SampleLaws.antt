-- The samples by computation. Assumes nothing.
use Rattle.prelude.proofs.Basics.{refl}
use Rattle.varint.specs.Varint.{groups}
use Rattle.varint.specs.Shortest.{shortest}
use Rattle.varint.specs.Padded.{padded_at, same_bytes}
use Rattle.session.specs.Lists.{All, first}
use Rattle.image_rules.specs.Numbers.{bytes_of, front_at}
use Rattle.image_rules.specs.Listing.{placed}
use Rattle.image_rules.specs.Image.{joined}
use Rattle.image_rules.specs.Restore.{entries_at, cursors_at, reading_of}
use Rattle.image_rules.specs.Samples.{SamplesShown}

pub samples_shown : SamplesShown
unfolding All groups shortest padded_at same_bytes first bytes_of front_at placed joined entries_at cursors_at reading_of
samples_shown = (
  refl,
  (
    refl,
    (
      refl,
      (
        refl,
        (
          refl,
          (
            refl,
            (
              refl,
              (
                refl,
                (
                  refl,
                  (
                    refl,
                    (
                      refl,
                      (
                        refl,
                        (
                          refl,
                          (
                            refl,
                            (
                              refl,
                              (
                                refl,
                                (refl, (refl, (refl, (refl, tt)))),
                              ),
                            ),
                          ),
                        ),
                      ),
                    ),
                  ),
                ),
              ),
            ),
          ),
        ),
      ),
    ),
  ),
)
