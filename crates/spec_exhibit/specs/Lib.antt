-- What two blobs of one name show.
pub mod Exhibit
